-- A text that is written in parts, one after another.
use Rattle.std.proofs.Common.{◌≡◌, ℕ, List, [], ◌++◌, Option, Result, Ok, Err, refl, sym, ap, subst, ◌∙◌, append_assoc, append-nil}
use Rattle.std.specs.Result.{OnOk, OnErr}
use Rattle.std.proofs.KnownBytes.{Appends-trans, Appends-nil}
use Rattle.can_stream.specs.Outbox.{PassesOn, TakesFront, Puts}
use Rattle.can_stream.specs.declared.fault.TraceFault.{TraceFault}

-- of a text some has been put, and this is left
pub record PutsPart (held holds : Option (List ℕ)) (old new text left : List ℕ) : Type 0 where
  pub done : List ℕ
  pub passes : PassesOn held holds old new done
  pub whole : done ++ left ≡ text

module _ (held mid holds : Option (List ℕ)) (old between : List ℕ) where
  -- first these bytes and then those
  pub PassesOn-joined : (new first second : List ℕ) → PassesOn held mid old between first → PassesOn mid holds between new second → PassesOn held holds old new (first ++ second)
  PassesOn-joined new first second p q = record {
    taken = p.taken ++ q.taken;
    appends = Appends-trans held mid holds p.taken q.taken p.appends q.appends;
    same = sym (append_assoc old first second) ∙ ap (λ t. t ++ second) p.same ∙ append_assoc p.taken between second
        ∙ ap (λ t. p.taken ++ t) q.same ∙ sym (append_assoc p.taken q.taken new);
  }

  pub TakesFront-joined : (first second : List ℕ) → PassesOn held mid old between first → TakesFront mid holds (between ++ second) → TakesFront held holds (old ++ (first ++ second))
  TakesFront-joined first second p q = record {
    taken = p.taken ++ q.taken;
    left = q.left;
    appends = Appends-trans held mid holds p.taken q.taken p.appends q.appends;
    split = sym (append_assoc old first second) ∙ ap (λ t. t ++ second) p.same ∙ append_assoc p.taken between second
        ∙ ap (λ t. p.taken ++ t) q.split ∙ sym (append_assoc p.taken q.taken q.left);
  }

-- a front of these bytes is one of more bytes
pub TakesFront-longer : (held holds : Option (List ℕ)) (bytes more : List ℕ) → TakesFront held holds bytes → TakesFront held holds (bytes ++ more)
TakesFront-longer held holds bytes more front = record {
  taken = front.taken;
  left = front.left ++ more;
  appends = front.appends;
  split = ap (λ t. t ++ more) front.split ∙ append_assoc front.taken front.left more;
}

-- what a call promises that puts all the bytes at once
pub Puts-at_once : {A : Type 0} (result : Result A TraceFault) (held holds : Option (List ℕ)) (old new put : List ℕ) →
    OnOk result (PassesOn held holds old new put) → OnErr result (TakesFront held holds old) → Puts result held holds old new put
Puts-at_once (Ok done) held holds old new put ok err = ok
Puts-at_once (Err fault) held holds old new put ok err = TakesFront-longer held holds old put err

-- nothing has been put
pub PutsPart-none : (held : Option (List ℕ)) (old text : List ℕ) → PutsPart held held old old text text
PutsPart-none held old text = record {
  done = [];
  passes = record { taken = []; appends = Appends-nil held; same = append-nil old };
  whole = refl;
}

module _ (held mid holds : Option (List ℕ)) (old between text left : List ℕ) (part : PutsPart held mid old between text left) where
  -- one part more
  pub PutsPart-more : (new piece rest : List ℕ) → left ≡ piece ++ rest → PassesOn mid holds between new piece → PutsPart held holds old new text rest
  PutsPart-more new piece rest split passes = record {
    done = part.done ++ piece;
    passes = PassesOn-joined held mid holds old between new part.done piece part.passes passes;
    whole = append_assoc part.done piece rest ∙ ap (λ t. part.done ++ t) (sym split) ∙ part.whole;
  }

  -- the writer failed in it
  pub PutsPart-failed : (piece rest : List ℕ) → left ≡ piece ++ rest → TakesFront mid holds (between ++ piece) → TakesFront held holds (old ++ text)
  PutsPart-failed piece rest split front =
      let longer : TakesFront mid holds ((between ++ piece) ++ rest) = TakesFront-longer mid holds (between ++ piece) rest front in
      let all : TakesFront mid holds (between ++ left) = subst (TakesFront mid holds) (append_assoc between piece rest ∙ ap (λ t. between ++ t) (sym split)) longer in
      subst (λ t. TakesFront held holds (old ++ t)) part.whole (TakesFront-joined held mid holds old between part.done left part.passes all)

  -- the part that is left
  pub PutsPart-last : {A : Type 0} (result : Result A TraceFault) (new : List ℕ) → Puts result mid holds between new left → Puts result held holds old new text
  PutsPart-last (Ok done) new passes = subst (PassesOn held holds old new) part.whole (PassesOn-joined held mid holds old between new part.done left part.passes passes)
  PutsPart-last (Err fault) new front = subst (λ t. TakesFront held holds (old ++ t)) part.whole (TakesFront-joined held mid holds old between part.done left part.passes front)

-- all was put in an empty buffer, and then the writer took a front of what was in it
pub flush-failed : {A : Type 0} (result : Result A TraceFault) (held mid holds : Option (List ℕ)) (waiting text : List ℕ) →
    PassesOn held mid [] waiting text → OnErr result (TakesFront mid holds waiting) → OnErr result (TakesFront held holds text)
flush-failed (Ok done) held mid holds waiting text p front = front
flush-failed (Err fault) held mid holds waiting text p front = record {
  taken = p.taken ++ front.taken;
  left = front.left;
  appends = Appends-trans held mid holds p.taken front.taken p.appends front.appends;
  split = p.same ∙ ap (λ t. p.taken ++ t) front.split ∙ sym (append_assoc p.taken front.taken front.left);
}
