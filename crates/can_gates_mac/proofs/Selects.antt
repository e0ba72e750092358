-- The element of a list at an index that is a number, chosen half by half.
use Rattle.std.specs.Prelude.{ℕ, suc, ◌≡◌, ◌+◌, ◌*◌, ◌^◌, ◌<◌, ◌≤◌, Bool, true, false, if◌then◌else◌, List, length, take, drop, get_or, refl}
use Rattle.std.proofs.Common.{arith, sym, ◌∙◌, ap}
use Rattle.std.proofs.lemmas.List.{get_or_past, get_or-drop, get_or-take, take_all}
use Rattle.can_gates.specs.declared.literal.Literal.{Literal}
use Rattle.can_gates.specs.Circuit.{value, never}
use Rattle.can_gates.specs.Words.{number, bit}
use Rattle.can_gates.proofs.WordNumbers.{number-take, number-take-lt}

pick_low : {A B : Type 0} (f : A → B) (items : List A) (n p : ℕ) (b : Bool) (made low : B) (d : A) → length items ≤ p → made ≡ (if b then f d else low) → low ≡ f (get_or items n d) → made ≡ f (get_or items (n + p * bit b) d)
pick_low f items n p true made low d few is e = is ∙ ap f (sym (get_or_past items (n + p * 1) d (omega (arith, few))))
pick_low f items n p false made low d few is e = let same : n ≡ n + p * 0 = omega arith in is ∙ e ∙ ap (λ k. f (get_or items k d)) same

pick : {A B : Type 0} (f : A → B) (items : List A) (n p : ℕ) (b : Bool) (made low high : B) (d : A) → n < p → made ≡ (if b then high else low) → low ≡ f (get_or (take p items) n d) → high ≡ f (get_or (drop p items) n d) → made ≡ f (get_or items (n + p * bit b) d)
pick f items n p true made low high d small is e_low e_high = let same : p + n ≡ n + p * 1 = omega arith in is ∙ e_high ∙ ap f (get_or-drop p items n d) ∙ ap (λ k. f (get_or items k d)) same
pick f items n p false made low high d small is e_low e_high = let same : n ≡ n + p * 0 = omega arith in is ∙ e_low ∙ ap f (get_or-take p items n d small) ∙ ap (λ k. f (get_or items k d)) same

split : (v : ℕ → Bool) → v 0 ≡ false → (place : List Literal) (k : ℕ) → length place ≡ suc k → number v place ≡ number v (take k place) + 2 ^ k * bit (value v (get_or place k never))
split v zero_is place k long = ap (number v) (sym (take_all (suc k) place (omega (arith, long)))) ∙ number-take v zero_is place k

pub select_low : {A B : Type 0} (f : A → B) (v : ℕ → Bool) → v 0 ≡ false → (items : List A) (place : List Literal) (k : ℕ) (made low : B) (d : A) → length place ≡ suc k → length items ≤ 2 ^ k → made ≡ (if value v (get_or place k never) then f d else low) → low ≡ f (get_or items (number v (take k place)) d) → made ≡ f (get_or items (number v place) d)
select_low f v zero_is items place k made low d long few is e = rw (split v zero_is place k long) (pick_low f items (number v (take k place)) (2 ^ k) (value v (get_or place k never)) made low d few is e)

pub select_both : {A B : Type 0} (f : A → B) (v : ℕ → Bool) → v 0 ≡ false → (items front back : List A) (place : List Literal) (k : ℕ) (made low high : B) (d : A) → length place ≡ suc k → front ≡ take (2 ^ k) items → back ≡ drop (2 ^ k) items → made ≡ (if value v (get_or place k never) then high else low) → low ≡ f (get_or front (number v (take k place)) d) → high ≡ f (get_or back (number v (take k place)) d) → made ≡ f (get_or items (number v place) d)
select_both f v zero_is items front back place k made low high d long e_front e_back is e_low e_high =
    rw (split v zero_is place k long) (pick f items (number v (take k place)) (2 ^ k) (value v (get_or place k never)) made low high d (number-take-lt v place k) is (e_low ∙ rw e_front refl) (e_high ∙ rw e_back refl))
