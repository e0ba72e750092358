-- What `stuffed` computes is the stuffed list, and how long it can get.
use Rattle.std.proofs.Common.{◌≡◌, ◌≢◌, ℕ, ◌+◌, ◌-◌, ◌*◌, ◌<◌, ◌≤◌, true, List, [], ◌∷◌, ◌++◌, length, drop, get_or, refl, sym, ◌∙◌, ap, subst, arith, append_assoc, length-append, inl, inr}
use Rattle.std.proofs.Math.Dec.{eqb}
use Rattle.std.proofs.lemmas.List.{append-nil, drop_more}
use Rattle.std.proofs.lemmas.Bool.{cases_eq, eq-eqb, ne_eqb, cond-true, cond-false}
use Rattle.can_frame.specs.declared.level.Level.{Level}
use Rattle.can_frame.specs.declared.level.Level.TheVariants.{Dominant}
use Rattle.can_frame.specs.Levels.{opposite}
use Rattle.can_wire.specs.Stuffing.{Stuffs, run_after, stuffed_from, stuffed}
use Rattle.can_wire.proofs.StuffPlaces.{is_due, Inserts, Inserts-nil, Inserts-plain, Inserts-stuffed, Inserts-from, Stuffs-from}
use Rattle.can_wire.proofs.Runs.{EndsInRun, EndsInRun-nil, EndsInRun-push, is_due-short, is_due-long, last_before, run_after-le, run_after-opposite, opposite_other}
use Rattle.can_wire.proofs.OneStuffing.{Stuffs-only}

-- a has been stuffed to b, which ends in a run of this level and length
pub record Stuffed (a b : List Level) (last : Level) (run : ℕ) : Type 0 where
  pub stuffs : Stuffs a b
  pub ends : EndsInRun b last run
  pub short : run < 5
  pub room : 4 * length b + run ≤ 5 * length a

pub Stuffed-nil : (y : Level) → Stuffed [] [] y 0
Stuffed-nil y = record {
  stuffs = Stuffs-from [] [] Inserts-nil refl;
  ends = EndsInRun-nil y;
  short = omega arith;
  room = omega arith;
}

-- one more level x, with the stuff bit that it makes due
module _ (a b : List Level) (last : Level) (run : ℕ) (x : Level) (s : Stuffed a b last run) where
  next : ℕ
  next = run_after last run x

  grown : Inserts (a ++ x ∷ []) (b ++ x ∷ [])
  grown = Inserts-plain a b x (Inserts-from a b s.stuffs) s.stuffs.end

  grown_ends : EndsInRun (b ++ x ∷ []) x (run_after last run x)
  grown_ends = EndsInRun-push b last run x s.ends

  pub Stuffed-plain : run_after last run x ≢ 5 → Stuffed (a ++ x ∷ []) (b ++ x ∷ []) x (run_after last run x)
  Stuffed-plain other =
      let short : run_after last run x < 5 = omega (arith, s.short, run_after-le last run x) in record {
        stuffs = Stuffs-from (a ++ x ∷ []) (b ++ x ∷ []) grown (is_due-short (b ++ x ∷ []) x (run_after last run x) grown_ends short);
        ends = grown_ends;
        short = short;
        room = omega (arith, s.room, run_after-le last run x, length-append a (x ∷ []), length-append b (x ∷ []));
      }

  pub Stuffed-due : run_after last run x ≡ 5 → Stuffed (a ++ x ∷ []) (b ++ x ∷ opposite x ∷ []) (opposite x) 1
  Stuffed-due five =
      let more = b ++ x ∷ [] in
      let run_five = run_after last run x in
      let due : is_due more ≡ true = is_due-long more x run_five grown_ends (omega arith) in
      let other : opposite x ≢ get_or more (length more - 1) Dominant = λ e. opposite_other x (e ∙ sym (last_before more x run_five grown_ends due)) in
      let ends = subst (EndsInRun (more ++ opposite x ∷ []) (opposite x)) (run_after-opposite x run_five) (EndsInRun-push more x run_five (opposite x) grown_ends) in
      subst (λ t. Stuffed (a ++ x ∷ []) t (opposite x) 1) (append_assoc b (x ∷ []) (opposite x ∷ [])) (record {
        stuffs = Stuffs-from (a ++ x ∷ []) (more ++ opposite x ∷ []) (Inserts-stuffed (a ++ x ∷ []) more (opposite x) grown due other)
            (is_due-short (more ++ opposite x ∷ []) (opposite x) 1 ends (omega arith));
        ends = ends;
        short = omega arith;
        room = omega (arith, s.room, run_after-le last run x, length-append a (x ∷ []), length-append b (x ∷ []), length-append more (opposite x ∷ []));
      })

pub stuffed_from-plain : (last : Level) (run : ℕ) (x : Level) (xs : List Level) → run_after last run x ≢ 5 → stuffed_from last run (x ∷ xs) ≡ x ∷ stuffed_from x (run_after last run x) xs
stuffed_from-plain last run x xs h =
    cond-false (eqb (run_after last run x) 5) (x ∷ opposite x ∷ stuffed_from (opposite x) 1 xs) (x ∷ stuffed_from x (run_after last run x) xs) (ne_eqb (run_after last run x) 5 h)

pub stuffed_from-due : (last : Level) (run : ℕ) (x : Level) (xs : List Level) → run_after last run x ≡ 5 → stuffed_from last run (x ∷ xs) ≡ x ∷ opposite x ∷ stuffed_from (opposite x) 1 xs
stuffed_from-due last run x xs h =
    cond-true (eqb (run_after last run x) 5) (x ∷ opposite x ∷ stuffed_from (opposite x) 1 xs) (x ∷ stuffed_from x (run_after last run x) xs) (eq-eqb (run_after last run x) 5 h)

-- any more levels xs
pub Stuffed-more : (xs a b : List Level) (last : Level) (run : ℕ) → Stuffed a b last run → (end : Level) × (end_run : ℕ) × Stuffed (a ++ xs) (b ++ stuffed_from last run xs) end end_run
Stuffed-more [] a b last run s =
    (last, run, subst (λ t. Stuffed t (b ++ []) last run) (sym (append-nil a)) (subst (λ t. Stuffed a t last run) (sym (append-nil b)) s))
Stuffed-more (x ∷ xs) a b last run s =
    let next = run_after last run x in
    let front = append_assoc a (x ∷ []) xs in
    elim (cases_eq next 5) [
      | inl five ↦
          let rest = stuffed_from (opposite x) 1 xs in
          let r = Stuffed-more xs (a ++ x ∷ []) (b ++ x ∷ opposite x ∷ []) (opposite x) 1 (Stuffed-due a b last run x s five) in
          let back : (b ++ x ∷ opposite x ∷ []) ++ rest ≡ b ++ stuffed_from last run (x ∷ xs) =
          append_assoc b (x ∷ opposite x ∷ []) rest ∙ ap (λ t. b ++ t) (sym (stuffed_from-due last run x xs five)) in
          (r.0, r.1, subst (λ t. Stuffed t (b ++ stuffed_from last run (x ∷ xs)) r.0 r.1) front (subst (λ t. Stuffed ((a ++ x ∷ []) ++ xs) t r.0 r.1) back r.2))
      | inr other ↦
          let rest = stuffed_from x next xs in
          let r = Stuffed-more xs (a ++ x ∷ []) (b ++ x ∷ []) x next (Stuffed-plain a b last run x s other) in
          let back : (b ++ x ∷ []) ++ rest ≡ b ++ stuffed_from last run (x ∷ xs) =
          append_assoc b (x ∷ []) rest ∙ ap (λ t. b ++ t) (sym (stuffed_from-plain last run x xs other)) in
          (r.0, r.1, subst (λ t. Stuffed t (b ++ stuffed_from last run (x ∷ xs)) r.0 r.1) front (subst (λ t. Stuffed ((a ++ x ∷ []) ++ xs) t r.0 r.1) back r.2))
    ]

pub Stuffs-stuffed : (a : List Level) → Stuffs a (stuffed a)
unfolding stuffed
Stuffs-stuffed a = let r = Stuffed-more a [] [] Dominant 0 (Stuffed-nil Dominant) in r.2.stuffs

-- at most one stuff bit for each four levels
pub length-stuffed : (a : List Level) → 4 * length (stuffed a) ≤ 5 * length a
unfolding stuffed
length-stuffed a = let r = Stuffed-more a [] [] Dominant 0 (Stuffed-nil Dominant) in omega (arith, r.2.room)

pub stuffed-only : (a b : List Level) → Stuffs a b → b ≡ stuffed a
stuffed-only a b s = Stuffs-only a b (stuffed a) s (Stuffs-stuffed a)

-- While levels are left, the list that is being written has space for one more level, and for two
-- if a stuff bit is due after the next.
module _ (out old levels : List Level) (last : Level) (run i room : ℕ) (whole : out ++ stuffed_from last run (drop i levels) ≡ old ++ stuffed levels) (fits : length old + length (stuffed levels) ≤ room) (left : i < length levels) where
  abbrev x : Level
  x = get_or levels i Dominant

  abbrev rest : List Level
  rest = drop (i + 1) levels

  sizes : length out + length (stuffed_from last run (x ∷ rest)) ≤ room
  sizes =
      let size = sym (length-append out (stuffed_from last run (drop i levels))) ∙ ap length whole ∙ length-append old (stuffed levels) in
      omega (arith, size, ap (λ t. length (stuffed_from last run t)) (drop_more levels i Dominant left))

  pub room_for_two : run_after last run x ≡ 5 → length out + 1 < room
  room_for_two five = omega (arith, sizes, ap length (stuffed_from-due last run x rest five))

  pub room_for_one : length out < room
  room_for_one = elim (cases_eq (run_after last run x) 5) [
    | inl five ↦ omega (arith, room_for_two five)
    | inr other ↦ omega (arith, sizes, ap length (stuffed_from-plain last run x rest other))
  ]
