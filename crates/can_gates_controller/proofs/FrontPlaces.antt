-- One more level of a front.
use Rattle.std.proofs.Common.{cond, ◌≡◌, ℕ, ◌+◌, ◌-◌, ◌*◌, ◌<◌, ◌≤◌, ◌⊎◌, inl, inr, min, Bool, true, false, not, ◌&&◌, ◌||◌, List, [], ◌∷◌, ◌++◌, length, get_or, set, refl, sym, ◌∙◌, ap, arith, length-append}
use Rattle.std.proofs.Math.Dec.{eqb}
use Rattle.std.proofs.lemmas.Bool.{cases_lt, cases_eq, ne_eqb, eq-eqb, cond-true, cond-false, cond_both, eqb-false}
use Rattle.std.proofs.lemmas.List.{get_or_past, get_or-set_same, get_or-set_other}
use Rattle.can_frame.specs.declared.level.Level.{Level}
use Rattle.can_frame.specs.declared.level.Level.TheVariants.{Dominant}
use Rattle.can_frame.specs.Levels.{is_recessive, same}
use Rattle.can_wire.specs.Crc.{crc_of}
use Rattle.can_wire.specs.Layout.{level_at}
use Rattle.can_wire.specs.Stuffing.{run_after}
use Rattle.can_wire.proofs.LayoutPlaces.{level_at-append, level_at-behind}
use Rattle.can_code.specs.Front.{FrontParts, heard_level}
use Rattle.can_gates.specs.declared.literal.Literal.{Literal}
use Rattle.can_gates.specs.Circuit.{value, never}
use Rattle.can_gates.specs.Words.{bit}

or_false : (b : Bool) → (b || false) ≡ b
or_false true = refl
or_false false = refl

and_false : (b : Bool) → (b && false) ≡ false
and_false true = refl
and_false false = refl

-- a list with one more level, place by place
pub appended_place : (u : List Level) (x : Level) (p : ℕ) → (is_recessive (level_at u p) || (eqb (length u) p && is_recessive x)) ≡ is_recessive (level_at (u ++ x ∷ []) p)
appended_place u x p = by (cases_lt p (length u))
  where
    behind : (p ≡ length u) ⊎ (p ≡ length u → ⊥) → length u ≤ p → (is_recessive (level_at u p) || (eqb (length u) p && is_recessive x)) ≡ is_recessive (level_at (u ++ x ∷ []) p)
    behind (inl e) h =
        let here : p - length u ≡ 0 = omega (arith, e) in
        rw (get_or_past u p Dominant h, eq-eqb (length u) p (sym e), level_at-behind u (x ∷ []) p h, here) refl
    behind (inr e) h =
        let past : length (u ++ x ∷ []) ≤ p = omega (arith, length-append u (x ∷ []), h, e) in
        rw (get_or_past u p Dominant h, ne_eqb (length u) p (λ d. e (sym d)), get_or_past (u ++ x ∷ []) p Dominant past) refl

    by : (p < length u) ⊎ (length u ≤ p) → (is_recessive (level_at u p) || (eqb (length u) p && is_recessive x)) ≡ is_recessive (level_at (u ++ x ∷ []) p)
    by (inl h) = rw (ne_eqb (length u) p (λ e. absurd (omega (arith, h, e))), level_at-append u (x ∷ []) p h) (or_false (is_recessive (level_at u p)))
    by (inr h) = behind (cases_eq p (length u)) h

abbrev due : FrontParts → Level → FrontParts
due front x = record { unstuffed = front.unstuffed; last = x; run = 1 }

abbrev plain : FrontParts → Level → FrontParts
plain front x = record { unstuffed = front.unstuffed ++ x ∷ []; last = x; run = run_after front.last front.run x }

-- a bit of what has been received; a stuff bit leaves the unstuffed levels as they are
pub heard_place : (front : FrontParts) (x : Level) (b : Bool) (p : ℕ) → eqb front.run 5 ≡ b → (is_recessive (level_at front.unstuffed p) || (eqb (length front.unstuffed) p && (not b && is_recessive x))) ≡ is_recessive (level_at (heard_level front x).unstuffed p)
heard_place front x true p at =
    rw (and_false (eqb (length front.unstuffed) p)) (or_false (is_recessive (level_at front.unstuffed p)))
    ∙ ap (λ (f : FrontParts). is_recessive (level_at f.unstuffed p)) (sym (cond-true (eqb front.run 5) (due front x) (plain front x) at))
heard_place front x false p at =
    appended_place front.unstuffed x p ∙ ap (λ (f : FrontParts). is_recessive (level_at f.unstuffed p)) (sym (cond-false (eqb front.run 5) (due front x) (plain front x) at))

pub heard_count : (front : FrontParts) (x : Level) (b : Bool) → eqb front.run 5 ≡ b → length front.unstuffed < 127 → min (length front.unstuffed + (bit (not b) + 2 * 0)) 127 ≡ length (heard_level front x).unstuffed
heard_count front x true at h =
    let same : min (length front.unstuffed + 0) 127 ≡ length front.unstuffed = omega (arith, h) in
    same ∙ ap (λ (f : FrontParts). length f.unstuffed) (sym (cond-true (eqb front.run 5) (due front x) (plain front x) at))
heard_count front x false at h =
    let more : min (length front.unstuffed + 1) 127 ≡ length (front.unstuffed ++ x ∷ []) = omega (arith, h, length-append front.unstuffed (x ∷ [])) in
    more ∙ ap (λ (f : FrontParts). length f.unstuffed) (sym (cond-false (eqb front.run 5) (due front x) (plain front x) at))

-- a bit of the one CRC register, or of the other
pub chosen_check : (b : Bool) (more old : List Level) (p : ℕ) (new was : Bool) → new ≡ is_recessive (level_at (crc_of more) p) → was ≡ is_recessive (level_at (crc_of old) p) → cond b new was ≡ is_recessive (level_at (crc_of (cond b more old)) p)
chosen_check true more old p new was e f = e
chosen_check false more old p new was e f = f

-- the unstuffed levels after a level
pub heard_unstuffed : (front : FrontParts) (x : Level) (b : Bool) → eqb front.run 5 ≡ b → cond (not b) (front.unstuffed ++ x ∷ []) front.unstuffed ≡ (heard_level front x).unstuffed
heard_unstuffed front x true at = ap (λ (f : FrontParts). f.unstuffed) (sym (cond-true (eqb front.run 5) (due front x) (plain front x) at))
heard_unstuffed front x false at = ap (λ (f : FrontParts). f.unstuffed) (sym (cond-false (eqb front.run 5) (due front x) (plain front x) at))

-- a place more of a list that is written
pub written_place : (v : ℕ → Bool) (f : ℕ → Bool) (all : List Literal) (l : Literal) (i p : ℕ) → i < length all → value v l ≡ f i → ((q : ℕ) → q < i → value v (get_or all q never) ≡ f q) → p < i + 1 → value v (get_or (set all i l) p never) ≡ f p
written_place v f all l i p within is before h = by (cases_eq p i)
  where
    by : (p ≡ i) ⊎ (p ≡ i → ⊥) → value v (get_or (set all i l) p never) ≡ f p
    by (inl d) = rw d (ap (value v) (get_or-set_same all i l never within) ∙ is)
    by (inr d) = ap (value v) (get_or-set_other all i p l never d) ∙ before p (omega (arith, h, d))

-- the same of the literals themselves
pub written_literal : (f : ℕ → Literal) (all : List Literal) (l : Literal) (i p : ℕ) → i < length all → l ≡ f i → ((q : ℕ) → q < i → get_or all q never ≡ f q) → p < i + 1 → get_or (set all i l) p never ≡ f p
written_literal f all l i p within is before h = by (cases_eq p i)
  where
    by : (p ≡ i) ⊎ (p ≡ i → ⊥) → get_or (set all i l) p never ≡ f p
    by (inl d) = rw d (get_or-set_same all i l never within ∙ is)
    by (inr d) = get_or-set_other all i p l never d ∙ before p (omega (arith, h, d))

after_short : (b : Bool) (n : ℕ) → (n ≡ 5 → ⊥) → n ≤ 5 → cond b (n + 1) 1 ≤ 5
after_short true n other few = omega (arith, other, few)
after_short false n other few = omega arith

-- a run stays at most five
pub heard_short : (front : FrontParts) (x : Level) → front.run ≤ 5 → (heard_level front x).run ≤ 5
heard_short front x few = cond_both (eqb front.run 5) (due front x) (plain front x) (λ (f : FrontParts). f.run ≤ 5) (λ e. omega arith) (λ e. after_short (same x front.last) front.run (eqb-false front.run 5 e) few)
