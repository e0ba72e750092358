-- The front that levels make, heard one by one: it is that of a stuffed list, and each begins a whole one.
use Rattle.std.proofs.Common.{◌≡◌, ◌≢◌, ℕ, ◌+◌, ◌-◌, ◌*◌, ◌<◌, ◌≤◌, Bool, true, false, ◌&&◌, List, [], ◌∷◌, ◌++◌, length, get_or, drop, replicate, refl, sym, ◌∙◌, ap, subst, arith, append_assoc, length-append, inl, inr}
use Rattle.std.proofs.Math.Dec.{eqb}
use Rattle.std.proofs.lemmas.List.{append-nil, nil_from_length, get_or_append_left, get_or_at}
use Rattle.std.proofs.lemmas.Bool.{cases_lt, cases_eq, eq-eqb, ne_eqb, both_ways, cond-true, cond-false}
use Rattle.can_frame.specs.declared.level.Level.{Level}
use Rattle.can_frame.specs.declared.level.Level.TheVariants.{Dominant, Recessive}
use Rattle.can_frame.specs.Levels.{same, opposite}
use Rattle.can_code.specs.declared.front.Place.TheVariants.{CrcDelimiter}
use Rattle.can_wire.specs.Stuffing.{is_stuff_place, run_after, stuffed_from, Stuffs}
use Rattle.can_wire.specs.Layout.{frame_len, IsComplete, IsPart}
use Rattle.can_code.specs.Front.{FrontParts, first_front, has_check, next_place, is_stuff_error, heard_level, IsFront}
use Rattle.can_wire.proofs.StuffPlaces.{is_due, is_stuff_place-append, Inserts, Inserts-nil, Inserts-plain, Inserts-stuffed, Stuffs-from, nonempty_from_due}
use Rattle.can_wire.proofs.Runs.{EndsInRun, EndsInRun-nil, EndsInRun-push, is_due-short, is_due-long, last_before, run_after-le, same_opposite}
use Rattle.can_wire.proofs.StuffingLemmas.{Stuffed, Stuffed-more}
use Rattle.can_wire.proofs.LayoutLengths.{IsComplete-completed}
use Rattle.can_code.proofs.FrontLemmas.{IsFront-first_front, IsFront-start, IsFront-complete, IsFront-stuff_bit, IsFront-bit, next_place-ended, next_place-partial, next_place-complete}
use Rattle.can_code.proofs.StuffedParts.{IsPart-once, front_of}
use Rattle.can_frame.proofs.LevelTests.{same-Decides}

-- f is the front that the levels b make
pub record IsFrontOf (b : List Level) (f : FrontParts) : Type 0 where
  pub inserts : Inserts f.unstuffed b
  pub ends : EndsInRun b f.last f.run
  pub room : 4 * length b + f.run ≤ 5 * length f.unstuffed
  pub front : IsFront f

pub IsFrontOf-first_front : IsFrontOf (Dominant ∷ []) first_front
IsFrontOf-first_front = record {
  inserts = Inserts-plain [] [] Dominant Inserts-nil refl;
  ends = EndsInRun-push [] Dominant 0 Dominant (EndsInRun-nil Dominant);
  room = omega arith;
  front = IsFront-first_front;
}

module _ (b : List Level) (f : FrontParts) (r : IsFrontOf b f) where
  not_due : f.run ≢ 5 → is_due b ≡ false
  not_due other =
      let n : f.run ≢ 5 = other in
      is_due-short b f.last f.run r.ends (omega (arith, r.front.short))

  due : f.run ≡ 5 → is_due b ≡ true
  due five = is_due-long b f.last f.run r.ends (omega arith)

  pub IsFrontOf-nonempty : 0 < length b
  IsFrontOf-nonempty = omega (arith, nonempty b r.ends)
    where
      nonempty : (b : List Level) → EndsInRun b f.last f.run → 0 < length b
      nonempty [] e = absurd (omega (arith, e.run_is, r.front.some))
      nonempty (x ∷ b) e = omega arith

  -- if no stuff bit is due, the levels are the stuffed list of the unstuffed ones
  pub IsFrontOf-stuffs : f.run ≢ 5 → Stuffs f.unstuffed b
  IsFrontOf-stuffs other = Stuffs-from f.unstuffed b r.inserts (not_due other)

  -- if the stuffed part has ended, it is complete
  pub IsFrontOf-part : next_place f ≡ CrcDelimiter → IsPart f.unstuffed b
  IsFrontOf-part ended =
      let h = next_place-ended f ended in record {
        complete = IsFront-complete f r.front h.1;
        stuffs = IsFrontOf-stuffs h.0;
      }

  -- the stuff bit
  stuff_bit : (x : Level) → f.run ≡ 5 → same x f.last ≡ false → IsFrontOf (b ++ x ∷ []) (record { unstuffed = f.unstuffed; last = x; run = 1 })
  stuff_bit x five other =
      let size : length (b ++ x ∷ []) ≡ length b + 1 = length-append b (x ∷ []) in
      let one : run_after f.last f.run x ≡ 1 = cond-false (same x f.last) (f.run + 1) 1 other in
      let differs : x ≢ get_or b (length b - 1) Dominant = λ e. not_same x f.last other (e ∙ sym (last_before b f.last f.run r.ends (due five))) in
      record {
        inserts = Inserts-stuffed f.unstuffed b x r.inserts (due five) differs;
        ends = subst (EndsInRun (b ++ x ∷ []) x) one (EndsInRun-push b f.last f.run x r.ends);
        room = omega (arith, r.room);
        front = IsFront-stuff_bit f r.front x;
      }
    where
      not_same : (x y : Level) → same x y ≡ false → x ≡ y → ⊥
      not_same Dominant Dominant h e = cc
      not_same Recessive Recessive h e = cc
      not_same Dominant Recessive h e = cc
      not_same Recessive Dominant h e = cc

  -- another level
  bit : (x : Level) → f.run ≢ 5 → has_check f.unstuffed ≡ false → IsFrontOf (b ++ x ∷ []) (record { unstuffed = f.unstuffed ++ x ∷ []; last = x; run = run_after f.last f.run x })
  bit x other partial = record {
    inserts = Inserts-plain f.unstuffed b x r.inserts (not_due other);
    ends = EndsInRun-push b f.last f.run x r.ends;
    room = omega (arith, r.room, run_after-le f.last f.run x, length-append b (x ∷ []), length-append f.unstuffed (x ∷ []));
    front = IsFront-bit f r.front other partial x;
  }

  -- one more level
  pub IsFrontOf-heard_level : (x : Level) → next_place f ≢ CrcDelimiter → is_stuff_error f x ≡ false → IsFrontOf (b ++ x ∷ []) (heard_level f x)
  IsFrontOf-heard_level x going no_error =
      let u = f.unstuffed in
      let at_stuff_bit : FrontParts = record { unstuffed = u; last = x; run = 1 } in
      let at_bit : FrontParts = record { unstuffed = u ++ x ∷ []; last = x; run = run_after f.last f.run x } in
      elim (cases_eq f.run 5) [
        | inl five ↦
            let due_here : eqb f.run 5 ≡ true = eq-eqb f.run 5 five in
            let other : same x f.last ≡ false = second (eqb f.run 5) (same x f.last) no_error due_here in
            subst (IsFrontOf (b ++ x ∷ [])) (sym (cond-true (eqb f.run 5) at_stuff_bit at_bit due_here)) (stuff_bit x five other)
        | inr other ↦
            subst (IsFrontOf (b ++ x ∷ [])) (sym (cond-false (eqb f.run 5) at_stuff_bit at_bit (ne_eqb f.run 5 other))) (bit x other (next_place-partial f going other))
      ]
    where
      second : (p q : Bool) → (p && q) ≡ false → p ≡ true → q ≡ false
      second true q h e = h
      second false q h e = cc

  -- dominant levels for all that the unstuffed levels miss
  missing : List Level
  missing = replicate (frame_len f.unstuffed - length f.unstuffed) Dominant

  whole : IsComplete (f.unstuffed ++ missing)
  unfolding missing
  whole = IsComplete-completed f.unstuffed (IsFront-start f r.front) r.front.within

  completed : (d : List Level) (last : Level) (run : ℕ) → Stuffed f.unstuffed d last run → (s : List Level) × IsPart (f.unstuffed ++ missing) (d ++ s)
  completed d last run stuffed =
      let more = Stuffed-more missing f.unstuffed d last run stuffed in
      (stuffed_from last run missing, record { complete = whole; stuffs = more.2.stuffs })

  -- the levels go on to a complete stuffed part
  pub IsFrontOf-completes : (v : List Level) × (s : List Level) × IsPart v (b ++ s)
  IsFrontOf-completes = elim (cases_eq f.run 5) [
    | inl five ↦
        let x = opposite f.last in
        let next = stuff_bit x five (same_opposite f.last) in
        let free : is_due (b ++ x ∷ []) ≡ false = is_due-short (b ++ x ∷ []) x 1 next.ends (omega arith) in
        let more = completed (b ++ x ∷ []) x 1 (record { stuffs = Stuffs-from f.unstuffed (b ++ x ∷ []) next.inserts free; ends = next.ends; short = omega arith; room = next.room }) in
        (f.unstuffed ++ missing, x ∷ more.0, subst (IsPart (f.unstuffed ++ missing)) (append_assoc b (x ∷ []) more.0) more.1)
    | inr other ↦
        let n : f.run ≢ 5 = other in
        let more = completed b f.last f.run (record { stuffs = Stuffs-from f.unstuffed b r.inserts (not_due other); ends = r.ends; short = omega (arith, r.front.short); room = r.room }) in
        (f.unstuffed ++ missing, more.0, more.1)
  ]

  -- levels whose stuffed part has not ended do not begin with a complete stuffed part
  pub IsFrontOf-no_part : next_place f ≢ CrcDelimiter → (w s y : List Level) → IsPart w s → s ++ y ≡ b → ⊥
  IsFrontOf-no_part going w s y part joined =
      let more = IsFrontOf-completes in
      let z = more.1 in
      let longer : s ++ (y ++ z) ≡ (b ++ z) ++ [] = sym (append_assoc s y z) ∙ ap (λ t. t ++ z) joined ∙ sym (append-nil (b ++ z)) in
      let one = IsPart-once w more.0 s (b ++ z) (y ++ z) [] part more.2 longer in
      let nothing : y ≡ [] = nil_from_length y (omega (arith, ap length joined, length-append s y, ap length one.1, length-append b z)) in
      let whole_b : s ≡ b = sym (append-nil s) ∙ ap (λ t. s ++ t) (sym nothing) ∙ joined in
      let stuffs = subst (Stuffs w) whole_b part.stuffs in
      let other : f.run ≢ 5 = λ five. both_ways (is_due b) stuffs.end (due five) in
      going (next_place-complete f other (subst IsComplete (sym stuffs.rest ∙ r.inserts.rest) part.complete))

  -- nor if a stuff bit has the level of the bit before it
  pub IsFrontOf-no_part_repeated : (x : Level) → f.run ≡ 5 → same x f.last ≡ true → (w s y z : List Level) → IsPart w s → s ++ y ≡ b ++ x ∷ z → ⊥
  IsFrontOf-no_part_repeated x five repeated w s y z part joined = elim (cases_lt (length b) (length s)) [
    | inl longer ↦
        let at_end : s ≡ b ++ drop (length b) s = front_of b s (x ∷ z) y (sym joined) (omega arith) in
        let place : is_stuff_place s (length b) ≡ true =
        ap (λ t. is_stuff_place t (length b)) at_end ∙ is_stuff_place-append b (drop (length b) s) (length b) (omega arith) ∙ due five in
        let here : get_or s (length b) Dominant ≡ x =
        sym (get_or_append_left s y Dominant (length b) longer) ∙ ap (λ t. get_or t (length b) Dominant) joined ∙ get_or_at b x z Dominant (length b) refl in
        let some = nonempty_from_due b (due five) in
        let before : get_or s (length b - 1) Dominant ≡ f.last =
        ap (λ t. get_or t (length b - 1) Dominant) at_end
        ∙ get_or_append_left b (drop (length b) s) Dominant (length b - 1) (omega arith)
        ∙ sym (last_before b f.last f.run r.ends (due five)) in
        part.stuffs.differs (length b) longer place (here ∙ (same-Decides x f.last).0 repeated ∙ sym before)
    | inr within ↦
        let going : next_place f ≢ CrcDelimiter = λ ended. (next_place-ended f ended).0 five in
        IsFrontOf-no_part going w s (drop (length s) b) part (sym (front_of s b y (x ∷ z) joined within))
  ]
