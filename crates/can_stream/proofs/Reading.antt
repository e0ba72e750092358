-- The steps of reading a line: bytes are read, and what is unread goes into the line.
use Rattle.std.proofs.Common.{◌≡◌, ℕ, zero, suc, ◌+◌, ◌==◌, Bool, false, cond, List, [], ◌∷◌, ◌++◌, length, take, Option, refl, sym, ap, ◌∙◌, append_assoc, add-zero, arith}
use Rattle.std.proofs.lemmas.List.{append-nil, length-append}
use Rattle.std.proofs.KnownBytes.{Consumes-nil, Consumes-trans}
use Rattle.std.specs.Io.KnownBytes.{Consumes}
use Rattle.can_stream.specs.Inbox.{Received}
use Rattle.can_stream.specs.Lines.{IsLine, SplitsLine}
use Rattle.can_stream.specs.LineReader.{ReadsLine}
use Rattle.can_stream.specs.declared.lines.LineReader.{LineReader}
use Rattle.can_stream.proofs.Elements.{AllByRecursion-append}

-- An input was read since the call began, and it and the bytes that were unread then are a part of a line
-- and the bytes that are unread now. The first bytes of the part are kept.
pub record Reading (before after : Option (List ℕ)) (kept : ℕ) (old now : LineReader kept) : Type 0 where
  pub input : List ℕ
  pub part : List ℕ
  pub consumes : Consumes before after input
  pub taken : now.inbox.taken ≡ old.inbox.taken + length input
  pub is_line : IsLine part
  pub split : old.inbox.unread ++ input ≡ part ++ now.inbox.unread
  pub keeps : now.line.items ≡ take kept part

take-take_front : (n : ℕ) (xs ys : List ℕ) → take n (take n xs ++ ys) ≡ take n (xs ++ ys)
take-take_front zero xs ys = refl
take-take_front (suc n) [] ys = refl
take-take_front (suc n) (x ∷ xs) ys = ap (λ t. x ∷ t) (take-take_front n xs ys)

take-nil : (n : ℕ) → take {A = ℕ} n [] ≡ []
take-nil zero = refl
take-nil (suc n) = refl

-- nothing was read so far
pub Reading-none : (before : Option (List ℕ)) (kept : ℕ) (old now : LineReader kept) → now.inbox ≡ old.inbox → now.line.items ≡ [] → Reading before before kept old now
Reading-none before kept old now same empty = record {
  input = [];
  part = [];
  consumes = Consumes-nil before;
  taken = ap (λ (b : Received). b.taken) same ∙ sym (add-zero old.inbox.taken);
  is_line = tt;
  split = append-nil old.inbox.unread ∙ ap (λ (b : Received). b.unread) (sym same);
  keeps = empty ∙ sym (take-nil kept);
}

module _ {before after : Option (List ℕ)} (kept : ℕ) (old now new : LineReader kept) where
  -- the unread bytes went into the line, before its end if it is among them
  pub ReadsLine-taken : (found : Bool) (part : List ℕ) → Reading before after kept old now → SplitsLine found now.inbox.unread [] part new.inbox.unread
      → new.line.items ≡ take kept (now.line.items ++ part) → new.inbox.taken ≡ now.inbox.taken → ReadsLine found before after kept old new
  ReadsLine-taken found part so_far splits keeps taken =
      let end = cond found (10 ∷ new.inbox.unread) [] in
      record {
        input = so_far.input;
        line = so_far.part ++ part;
        consumes = so_far.consumes;
        taken = taken ∙ so_far.taken;
        splits = record {
          is_line = AllByRecursion-append (λ byte. (byte == 10) ≡ false) so_far.part part so_far.is_line splits.is_line;
          split = so_far.split ∙ ap (λ t. so_far.part ++ t) (sym (append-nil now.inbox.unread) ∙ splits.split) ∙ sym (append_assoc so_far.part part end);
          closed = splits.closed;
        };
        keeps = keeps ∙ ap (λ t. take kept (t ++ part)) so_far.keeps ∙ take-take_front kept so_far.part part;
      }

module _ {before between after : Option (List ℕ)} (kept : ℕ) (old now new : LineReader kept) (open_line : ReadsLine false before between kept old now) where
  -- more bytes were read after a line that is not ended
  pub Reading-more : Consumes between after new.inbox.unread → new.inbox.taken ≡ now.inbox.taken + length new.inbox.unread → new.line.items ≡ now.line.items
      → Reading before after kept old new
  Reading-more consumes taken line =
      let more = new.inbox.unread in
      let was = open_line.splits in
      let so_far : old.inbox.unread ++ open_line.input ≡ open_line.line = was.split ∙ append-nil open_line.line in
      record {
        input = open_line.input ++ more;
        part = open_line.line;
        consumes = Consumes-trans before between after open_line.input more open_line.consumes consumes;
        taken = omega (arith, taken, open_line.taken, length-append open_line.input more);
        is_line = was.is_line;
        split = sym (append_assoc old.inbox.unread open_line.input more) ∙ ap (λ t. t ++ more) so_far;
        keeps = line ∙ open_line.keeps;
      }

  -- no bytes came after it
  pub ReadsLine-stopped : Consumes between after new.inbox.unread → new.inbox.taken ≡ now.inbox.taken + length new.inbox.unread → new.line.items ≡ now.line.items
      → new.inbox.unread ≡ [] → ReadsLine false before after kept old new
  ReadsLine-stopped consumes taken line none =
      let reading = Reading-more consumes taken line in
      record {
        input = reading.input;
        line = reading.part;
        consumes = reading.consumes;
        taken = reading.taken;
        splits = record {
          is_line = reading.is_line;
          split = reading.split ∙ ap (λ t. reading.part ++ t) none;
          closed = λ _. none;
        };
        keeps = reading.keeps;
      }
