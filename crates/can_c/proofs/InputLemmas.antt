-- The first reason in a list, item by item.
use Rattle.std.specs.Option.{option_or}
use Rattle.std.proofs.Common.{◌≡◌, ℕ, zero, suc, ◌+◌, ◌<◌, ◌≤◌, Option, Some, None, List, [], ◌∷◌, length, take, get_or, refl, sym, ap, ◌∙◌, arith, add-one}
use Rattle.std.proofs.lemmas.List.{take_all}
use Rattle.can_c.specs.declared.status.Status.{Status}
use Rattle.can_c.specs.PlainInputs.{first_reason}

both-none : (a b : Option Status) → option_or a b ≡ None → (a ≡ None) × (b ≡ None)
both-none None b e = (refl, e)
both-none (Some x) b e = absurd (let k : Some x ≡ None = e in cc)

module _ {A : Type 0} (why : A → Option Status) where
  more : (xs : List A) (n : ℕ) (d : A) → n < length xs → first_reason why (take n xs) ≡ None → why (get_or xs n d) ≡ None → first_reason why (take (suc n) xs) ≡ None
  more [] n d within none here = absurd (omega arith)
  more (x ∷ xs) zero d within none here = ap (λ r. option_or r None) here
  more (x ∷ xs) (suc n) d within none here =
      let parts = both-none (why x) (first_reason why (take n xs)) none in
      ap (λ r. option_or r (first_reason why (take (suc n) xs))) parts.0 ∙ more xs n d (omega arith) parts.1 here

  at : (xs : List A) (n : ℕ) (d : A) (reason : Status) → n < length xs → first_reason why (take n xs) ≡ None → why (get_or xs n d) ≡ Some reason → first_reason why xs ≡ Some reason
  at [] n d reason within none here = absurd (omega arith)
  at (x ∷ xs) zero d reason within none here = ap (λ r. option_or r (first_reason why xs)) here
  at (x ∷ xs) (suc n) d reason within none here =
      let parts = both-none (why x) (first_reason why (take n xs)) none in
      ap (λ r. option_or r (first_reason why xs)) parts.0 ∙ at xs n d reason (omega arith) parts.1 here

  -- there is none among one more element
  pub none-more : (xs : List A) (n : ℕ) (d : A) → n < length xs → first_reason why (take n xs) ≡ None → why (get_or xs n d) ≡ None → first_reason why (take (n + 1) xs) ≡ None
  none-more xs n d within none here = rw add-one (more xs n d within none here)

  -- it is that of the next
  pub first-here : (xs : List A) (n : ℕ) (d : A) (reason : Status) → n < length xs → first_reason why (take n xs) ≡ None → why (get_or xs n d) ≡ Some reason → first_reason why xs ≡ Some reason
  first-here xs n d reason within none here = at xs n d reason within none here

  -- there is none at all
  pub none-at-all : (xs : List A) (n : ℕ) → length xs ≤ n → first_reason why (take n xs) ≡ None → first_reason why xs ≡ None
  none-at-all xs n long none = sym (ap (first_reason why) (take_all n xs long)) ∙ none
