-- What was read and written when what waited in the buffer was given to the writer, and when a call ends.
use Rattle.std.proofs.Common.{◌≡◌, ℕ, List, ◌++◌, Option, Result, Ok, Err, IfOk, subst}
use Rattle.std.proofs.KnownBytes.{Appends-trans}
use Rattle.std.specs.Io.KnownBytes.{Appends}
use Rattle.can_stream.specs.Outbox.{TakesFront}
use Rattle.can_stream.specs.Told.{Told}
use Rattle.can_stream.specs.declared.fault.TraceFault.{TraceFault}

module _ {R W : Type 0} (remaining : R → Option (List ℕ)) (r_before r : R) (contents : W → Option (List ℕ)) (w_before : W) where
  module _ (w w_after : W) (waiting : List ℕ) (Related : List ℕ → List ℕ → Type 0) (told : Told remaining r_before r contents w_before w (λ input output. Related input (output ++ waiting))) where
    -- the writer took all
    pub Told-flushed : Appends (contents w) (contents w_after) waiting → Told remaining r_before r contents w_before w_after Related
    Told-flushed took = record {
      input = told.input;
      output = told.output ++ waiting;
      consumes = told.consumes;
      appends = Appends-trans _ _ _ told.output waiting told.appends took;
      related = told.related;
    }

    -- the writer failed, if a part of the output is related to the input in this way
    pub Told-unflushed : (Begins : List ℕ → List ℕ → Type 0)
        → ((input output taken left : List ℕ) → waiting ≡ taken ++ left → Related input (output ++ waiting) → Begins input (output ++ taken))
        → TakesFront (contents w) (contents w_after) waiting → Told remaining r_before r contents w_before w_after Begins
    Told-unflushed Begins begins front = record {
      input = told.input;
      output = told.output ++ front.taken;
      consumes = told.consumes;
      appends = Appends-trans _ _ _ told.output front.taken told.appends front.appends;
      related = begins told.input told.output front.taken front.left front.split told.related;
    }

  -- what follows from how they are related
  pub Told-weaker : (w : W) (P Q : List ℕ → List ℕ → Type 0) → ((input output : List ℕ) → P input output → Q input output) → Told remaining r_before r contents w_before w P → Told remaining r_before r contents w_before w Q
  Told-weaker w P Q weaker told = record { input = told.input; output = told.output; consumes = told.consumes; appends = told.appends; related = weaker told.input told.output told.related }

  -- by the result
  module _ {A : Type 0} (w : W) (Ends : Result A TraceFault → List ℕ → List ℕ → Type 0) where
    pub Told-ok : (result : Result A TraceFault) → Told remaining r_before r contents w_before w (Ends result) → IfOk result (λ t. Told remaining r_before r contents w_before w (Ends (Ok t)))
    Told-ok (Ok t) told = told
    Told-ok (Err e) told = tt

    pub Told-err : (result : Result A TraceFault) (e : TraceFault) → Told remaining r_before r contents w_before w (Ends result) → result ≡ Err e → Told remaining r_before r contents w_before w (Ends (Err e))
    Told-err result e told is = subst (λ x. Told remaining r_before r contents w_before w (Ends x)) is told
