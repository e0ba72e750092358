-- What a node that is bus off holds, as it takes level after level.
use Rattle.std.proofs.Common.{◌≡◌, ℕ, zero, suc, ◌+◌, ◌%◌, ◌<◌, ◌≤◌, ◌↔◌, Bool, true, false, ◌&&◌, List, [], ◌∷◌, ◌++◌, length, get_or, replicate, take, drop, refl, sym, ◌∙◌, ap, subst, arith, cond, inl, inr, append_assoc}
use Rattle.std.proofs.Math.Dec.{ltb, leb}
use Rattle.std.proofs.Math.Seq.{take-suc, take-length}
use Rattle.std.proofs.lemmas.List.{append-nil, take-append-drop, take-take}
use Rattle.std.proofs.lemmas.Bool.{cases_lt, false_from_ne_true, lt-ltb, le-ltb, leb-true, leb-false, le-leb, cond-true, cond-false}
use Rattle.can_frame.specs.declared.level.Level.{Level}
use Rattle.can_frame.specs.declared.level.Level.TheVariants.{Dominant, Recessive}
use Rattle.can_fault.specs.declared.state.State.TheVariants.{Active, Passive, BusOff}
use Rattle.can_fault.specs.Counters.{ConfineParts, IsConfine, fresh, is_bus_off, is_passive, state_of}
use Rattle.can_fault.specs.Recovery.{occurrences_in, last_run, since_last, EndsBusOff, EndsBehind, StaysBusOff, after_levels, after_level, ends_bus_off, recovered}
use Rattle.can_fault.proofs.RunLemmas.{last_run-dominant, last_run-recessive, occurrences_in-dominant, occurrences_in-recessive, occurrences_in-append-le, occurrences_in-replicate, last_run-replicate}

pub state_of-bus_off : (c : ConfineParts) → state_of c ≡ BusOff → is_bus_off c ≡ true
state_of-bus_off c h = by_tests (is_bus_off c) (is_passive c) refl refl h
  where
    by_tests : (off passive : Bool) → is_bus_off c ≡ off → is_passive c ≡ passive → cond off BusOff (cond passive Passive Active) ≡ BusOff → is_bus_off c ≡ true
    by_tests true passive o p e = o
    by_tests false true o p e = cc
    by_tests false false o p e = cc

-- what c holds of the levels l since its last occurrence
held : ConfineParts → List Level → ConfineParts
held c l = record c { occurrences = c.occurrences + occurrences_in l; row = last_run l % 11 }

with_equals : (c : ConfineParts) {o p r s : ℕ} → o ≡ p → r ≡ s
    → let left : ConfineParts = record c { occurrences = o; row = r } in let right : ConfineParts = record c { occurrences = p; row = s } in left ≡ right
with_equals c {o} {p} {r} {s} e f = ap (λ t. record c { occurrences = t; row = r }) e ∙ ap (λ t. record c { occurrences = p; row = t }) f

held-push : (c : ConfineParts) (l : List Level) (x : Level) → held c (l ++ x ∷ []) ≡ after_level x (held c l)
unfolding held
held-push c l Dominant = with_equals c (ap (λ t. c.occurrences + t) (occurrences_in-dominant l)) (ap (λ t. t % 11) (last_run-dominant l))
held-push c l Recessive =
    let run : last_run (l ++ Recessive ∷ []) ≡ last_run l + 1 = last_run-recessive l in
    let more = occurrences_in-recessive l in
    let n = last_run l in
    elim (cases_lt (n % 11) 10) [
      | inl short ↦
          let o : c.occurrences + occurrences_in (l ++ Recessive ∷ []) ≡ c.occurrences + occurrences_in l = omega arith in
          let r : last_run (l ++ Recessive ∷ []) % 11 ≡ n % 11 + 1 = omega arith in
          with_equals c o r ∙ sym (cond-true (ltb (n % 11) 10) _ _ (lt-ltb (n % 11) 10 short))
      | inr long ↦
          let o : c.occurrences + occurrences_in (l ++ Recessive ∷ []) ≡ c.occurrences + occurrences_in l + 1 = omega arith in
          let r : last_run (l ++ Recessive ∷ []) % 11 ≡ 0 = omega arith in
          with_equals c o r ∙ sym (cond-false (ltb (n % 11) 10) _ _ (le-ltb (n % 11) 10 long))
    ]

-- one level more
pub after_levels-push : (c : ConfineParts) (l : List Level) (x : Level) → after_levels c (l ++ x ∷ []) ≡ after_level x (after_levels c l)
unfolding held
after_levels-push c l x = ap (held c) (sym (append_assoc (replicate c.row Recessive) l (x ∷ []))) ∙ held-push c (since_last c l) x

pub after_levels-nil : (c : ConfineParts) → c.row < 11 → after_levels c [] ≡ c
after_levels-nil c short =
    let alone : since_last c [] ≡ replicate c.row Recessive = append-nil (replicate c.row Recessive) in
    let o : c.occurrences + occurrences_in (since_last c []) ≡ c.occurrences = omega (arith, ap occurrences_in alone, occurrences_in-replicate c.row) in
    let r : last_run (since_last c []) % 11 ≡ c.row = omega (arith, ap last_run alone, last_run-replicate c.row) in
    with_equals c o r

-- a level completes one occurrence at most
pub after_level-le : (x : Level) (c : ConfineParts) → (after_level x c).occurrences ≤ c.occurrences + 1
after_level-le Dominant c = omega arith
after_level-le Recessive c = by_test (ltb c.row 10)
  where
    by_test : (b : Bool) → (let next : ConfineParts = cond b (record c { row = c.row + 1 }) (record c { occurrences = c.occurrences + 1; row = 0 }) in next.occurrences) ≤ c.occurrences + 1
    by_test true = omega arith
    by_test false = omega arith

-- whether a level ends bus off
ends_bus_off-test : (x : Level) (c : ConfineParts) → is_bus_off c ≡ true → ends_bus_off x c ≡ leb 128 (after_level x c).occurrences
ends_bus_off-test x c off = ap (λ b. b && leb 128 (after_level x c).occurrences) off

-- p is the state of c, which is bus off, after levels that do not end it
pub record IsWaiting (c : ConfineParts) (l : List Level) (p : ConfineParts) : Type 0 where
  pub off : state_of c ≡ BusOff
  pub here : p ≡ after_levels c l
  pub short : p.occurrences < 128

pub IsWaiting-nil : (c : ConfineParts) → IsConfine c → state_of c ≡ BusOff → IsWaiting c [] c
IsWaiting-nil c h off = record { off = off; here = sym (after_levels-nil c h.row); short = h.occurrences }

module _ (c : ConfineParts) (l : List Level) (p : ConfineParts) (w : IsWaiting c l p) where
  still_off : is_bus_off p ≡ true
  still_off = ap is_bus_off w.here ∙ state_of-bus_off c w.off

  next : (x : Level) → after_levels c (l ++ x ∷ []) ≡ after_level x p
  next x = after_levels-push c l x ∙ ap (after_level x) (sym w.here)

  -- no front has ended bus off
  pub IsWaiting-stays : StaysBusOff c l
  IsWaiting-stays m ends =
      let whole : since_last c (take m l) ++ drop m l ≡ since_last c l =
      append_assoc (replicate c.row Recessive) (take m l) (drop m l) ∙ ap (since_last c) (take-append-drop m l) in
      let fewer : occurrences_in (since_last c (take m l)) ≤ occurrences_in (since_last c (take m l) ++ drop m l) = occurrences_in-append-le (since_last c (take m l)) (drop m l) in
      let count : p.occurrences ≡ c.occurrences + occurrences_in (since_last c l) = ap (λ t. t.occurrences) w.here in
      absurd (omega (arith, ap occurrences_in whole, fewer, count, ends, w.short))

  pub IsWaiting-push : (x : Level) → ends_bus_off x p ≡ false → IsWaiting c (l ++ x ∷ []) (recovered x p)
  IsWaiting-push x e =
      let on : recovered x p ≡ after_level x p = cond-true (is_bus_off p) _ p still_off ∙ cond-false (ends_bus_off x p) fresh (after_level x p) e in
      record {
        off = w.off;
        here = on ∙ sym (next x);
        short = subst (λ t. t.occurrences < 128) (sym on) (leb-false 128 (after_level x p).occurrences (sym (ends_bus_off-test x p still_off) ∙ e));
      }

  pub IsWaiting-ended : (x : Level) → ends_bus_off x p ≡ true → EndsBusOff c (l ++ x ∷ []) × (recovered x p ≡ fresh)
  IsWaiting-ended x e =
      let enough : 128 ≤ (after_level x p).occurrences = leb-true 128 (after_level x p).occurrences (sym (ends_bus_off-test x p still_off) ∙ e) in
      let count : c.occurrences + occurrences_in (since_last c (l ++ x ∷ [])) ≡ (after_level x p).occurrences = ap (λ t. t.occurrences) (next x) in
      let ends : EndsBusOff c (l ++ x ∷ []) = omega (arith, w.short, after_level-le x p) in
      (ends, cond-true (is_bus_off p) _ p still_off ∙ cond-true (ends_bus_off x p) fresh (after_level x p) e)

  pub IsWaiting-ends : (x : Level) → EndsBusOff c (l ++ x ∷ []) → ends_bus_off x p ≡ true
  IsWaiting-ends x ends =
      let count : c.occurrences + occurrences_in (since_last c (l ++ x ∷ [])) ≡ (after_level x p).occurrences = ap (λ t. t.occurrences) (next x) in
      ends_bus_off-test x p still_off ∙ le-leb 128 (after_level x p).occurrences (omega arith)

-- one level alone
module _ (c : ConfineParts) (h : IsConfine c) (x : Level) (b : Bool) (value : b ≡ ends_bus_off x c) (off : state_of c ≡ BusOff) where
  pub one_level-ends : (b ≡ true) ↔ EndsBusOff c (x ∷ [])
  one_level-ends =
      let w = IsWaiting-nil c h off in
      (λ ended. (IsWaiting-ended c [] c w x (sym value ∙ ended)).0, λ ends. value ∙ IsWaiting-ends c [] c w x ends)

  pub one_level-waits : (p : ConfineParts) → p ≡ recovered x c → b ≡ false → p ≡ after_levels c (x ∷ [])
  one_level-waits p after none =
      let w = IsWaiting-nil c h off in
      after ∙ (IsWaiting-push c [] c w x (sym value ∙ none)).here

-- c is bus off, and no front of the levels ends that
module _ (c : ConfineParts) (l : List Level) (h : IsConfine c) (off : state_of c ≡ BusOff) (stays : StaysBusOff c l) where
  what_is_held : (l : List Level) (p : ConfineParts) → IsWaiting c l p → IsWaiting c l (after_levels c l)
  what_is_held l p w = subst (IsWaiting c l) w.here w

  one_front_more : (i : ℕ) → i < length l → IsWaiting c (take i l) (after_levels c (take i l)) → IsWaiting c (take (suc i) l) (after_levels c (take (suc i) l))
  one_front_more i within w =
      subst (λ t. IsWaiting c t (after_levels c t)) (sym front) (what_is_held (take i l ++ x ∷ []) (recovered x p) (IsWaiting-push c (take i l) p w x goes_on))
    where
      x : Level
      x = get_or l i Dominant

      p : ConfineParts
      p = after_levels c (take i l)

      front : take (suc i) l ≡ take i l ++ x ∷ []
      front = take-suc l i Dominant within

      goes_on : ends_bus_off x p ≡ false
      goes_on = false_from_ne_true (ends_bus_off x p) (λ e. stays (suc i) (subst (EndsBusOff c) (sym front) (IsWaiting-ended c (take i l) p w x e).0))

  fronts : (i : ℕ) → i ≤ length l → IsWaiting c (take i l) (after_levels c (take i l))
  fronts zero within = what_is_held [] c (IsWaiting-nil c h off)
  fronts (suc i) within = one_front_more i (omega arith) (fronts i (omega arith))

  pub IsWaiting-after : IsWaiting c l (after_levels c l)
  IsWaiting-after = subst (λ t. IsWaiting c t (after_levels c t)) (take-length l) (fronts (length l) (omega arith))

-- x is the next level of a list, of which the first i don't end bus off
module _ (c : ConfineParts) (l : List Level) (i : ℕ) (x : Level) (within : i < length l) (front : take (i + 1) l ≡ take i l ++ x ∷ [])
    (p : ConfineParts) (w : IsWaiting c (take i l) p) where
  pub IsWaiting-next : ends_bus_off x p ≡ false → IsWaiting c (take (i + 1) l) (recovered x p)
  IsWaiting-next e = subst (λ t. IsWaiting c t (recovered x p)) (sym front) (IsWaiting-push c (take i l) p w x e)

  pub EndsBehind-next : ends_bus_off x p ≡ true → EndsBehind c l (i + 1)
  EndsBehind-next e = record {
    off = w.off;
    within = omega arith;
    ends = subst (EndsBusOff c) (sym front) (IsWaiting-ended c (take i l) p w x e).0;
    first = λ m h ends. IsWaiting-stays c (take i l) p w m (subst (EndsBusOff c) (sym (take-take m i l (omega arith))) ends);
  }
