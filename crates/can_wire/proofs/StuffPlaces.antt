-- Stuff places, and how a stuffed list grows at its end.
use Rattle.std.proofs.Common.{◌≡◌, ◌≢◌, ℕ, suc, ◌+◌, ◌-◌, ◌<◌, ◌≤◌, Bool, true, false, List, [], ◌∷◌, ◌++◌, length, get_or, reverse, refl, sym, ◌∙◌, ap, subst, arith, length-append, inl, inr, cond}
use Rattle.std.proofs.lemmas.List.{append-nil, take-append-le, take_all, get_or_append_left, get_or_at}
use Rattle.std.proofs.lemmas.Bool.{cases_lt}
use Rattle.can_frame.specs.declared.level.Level.{Level}
use Rattle.can_frame.specs.declared.level.Level.TheVariants.{Dominant}
use Rattle.can_wire.specs.Stuffing.{begins_with_five, is_stuff_place, kept, Stuffs}

-- a stuff bit is due after b
abbrev pub is_due : List Level → Bool
is_due b = is_stuff_place b (length b)

-- a place depends on the levels before it
pub is_stuff_place-append : (b c : List Level) (p : ℕ) → p ≤ length b → is_stuff_place (b ++ c) p ≡ is_stuff_place b p
is_stuff_place-append b c p h = ap (λ t. begins_with_five (reverse t)) (take-append-le p b c h)

pub is_due-reverse : (b : List Level) → is_due b ≡ begins_with_five (reverse b)
is_due-reverse b = ap (λ t. begins_with_five (reverse t)) (take_all (length b) b (omega arith))

pub nonempty_from_due : (b : List Level) → is_due b ≡ true → 0 < length b
nonempty_from_due [] h = cc
nonempty_from_due (x ∷ b) h = omega arith

-- what is kept of levels depends on those before the last of them
pub kept-within : (b c xs : List Level) (p : ℕ) → p + length xs ≤ length b + 1 → kept (b ++ c) p xs ≡ kept b p xs
kept-within b c [] p h = refl
kept-within b c (x ∷ xs) p h =
    let rest = kept-within b c xs (p + 1) (omega arith) in
    let place = is_stuff_place-append b c p (omega arith) in
    ap (λ t. cond (is_stuff_place (b ++ c) p) t (x ∷ t)) rest ∙ ap (λ t. cond t (kept b (p + 1) xs) (x ∷ kept b (p + 1) xs)) place

pub kept-append : (b xs ys : List Level) (p : ℕ) → kept b p (xs ++ ys) ≡ kept b p xs ++ kept b (p + length xs) ys
kept-append b [] ys p = ap (λ k. kept b k ys) (let e : p ≡ p + 0 = omega arith in e)
kept-append b (x ∷ xs) ys p =
    let e : (p + 1) + length xs ≡ p + suc (length xs) = omega arith in
    let rest = kept-append b xs ys (p + 1) ∙ ap (λ k. kept b (p + 1) xs ++ kept b k ys) e in
    ap (λ t. cond (is_stuff_place b p) t (x ∷ t)) rest ∙ out (is_stuff_place b p) (kept b (p + 1) xs) (kept b (p + suc (length xs)) ys)
  where
    out : (t : Bool) (k l : List Level) → cond t (k ++ l) (x ∷ (k ++ l)) ≡ cond t k (x ∷ k) ++ l
    out true k l = refl
    out false k l = refl

-- b is a with stuff bits, of which one may still be due after b: `Stuffs` without its last condition
pub record Inserts (a b : List Level) : Type 0 where
  pub differs : (p : ℕ) → p < length b → is_stuff_place b p ≡ true → get_or b p Dominant ≢ get_or b (p - 1) Dominant
  pub rest : kept b 0 b ≡ a

pub Inserts-nil : Inserts [] []
Inserts-nil = record { differs = λ p l e. absurd (omega arith); rest = refl }

pub Stuffs-from : (a b : List Level) → Inserts a b → is_due b ≡ false → Stuffs a b
Stuffs-from a b h e = record { differs = h.differs; rest = h.rest; end = e }

pub Inserts-from : (a b : List Level) → Stuffs a b → Inserts a b
Inserts-from a b h = record { differs = h.differs; rest = h.rest }

-- one more level y after b
module _ (a b : List Level) (y : Level) (h : Inserts a b) where
  size : length (b ++ y ∷ []) ≡ length b + 1
  size = length-append b (y ∷ [])

  end_place : is_stuff_place (b ++ y ∷ []) (length b) ≡ is_due b
  end_place = is_stuff_place-append b (y ∷ []) (length b) (omega arith)

  -- the places that were there
  earlier : (p : ℕ) → p < length b → is_stuff_place (b ++ y ∷ []) p ≡ true → get_or (b ++ y ∷ []) p Dominant ≢ get_or (b ++ y ∷ []) (p - 1) Dominant
  earlier p l e =
      let here = get_or_append_left b (y ∷ []) Dominant p l in
      let there = get_or_append_left b (y ∷ []) Dominant (p - 1) (omega arith) in
      let place = is_stuff_place-append b (y ∷ []) p (omega arith) in
      λ q. h.differs p l (sym place ∙ e) (sym here ∙ q ∙ there)

  -- the new place
  last_place : (is_due b ≡ true → y ≢ get_or b (length b - 1) Dominant) → is_due b ≡ true → get_or (b ++ y ∷ []) (length b) Dominant ≢ get_or (b ++ y ∷ []) (length b - 1) Dominant
  last_place other due =
      let some : 0 < length b = nonempty_from_due b due in
      let here : get_or (b ++ y ∷ []) (length b) Dominant ≡ y = get_or_at b y [] Dominant (length b) refl in
      let there = get_or_append_left b (y ∷ []) Dominant (length b - 1) (omega arith) in
      λ q. other due (sym here ∙ q ∙ there)

  -- it is kept if no stuff bit is due; if one is due it has to differ from the level before it
  pub Inserts-push : (is_due b ≡ true → y ≢ get_or b (length b - 1) Dominant) → Inserts (a ++ cond (is_due b) [] (y ∷ [])) (b ++ y ∷ [])
  Inserts-push other = record {
    differs = λ p l e. elim (cases_lt p (length b)) [
      | inl before ↦ earlier p before e
      | inr after ↦
          let more = b ++ y ∷ [] in
          let at_end : p ≡ length b = omega (arith, size) in
          let due : is_due b ≡ true = sym end_place ∙ ap (is_stuff_place more) (sym at_end) ∙ e in
          subst (λ k. get_or more k Dominant ≢ get_or more (k - 1) Dominant) (sym at_end) (last_place other due)
    ];
    rest =
        let more = b ++ y ∷ [] in
        let e : 0 + length b ≡ length b = omega arith in
        let place : is_stuff_place more (0 + length b) ≡ is_due b = ap (is_stuff_place more) e ∙ end_place in
        kept-append more b (y ∷ []) 0 ∙ ap (λ t. t ++ kept more (0 + length b) (y ∷ [])) (kept-within b (y ∷ []) b 0 (omega arith) ∙ h.rest)
        ∙ ap (λ t. a ++ cond t [] (y ∷ [])) place;
  }

  -- a level that is no stuff bit
  pub Inserts-plain : is_due b ≡ false → Inserts (a ++ y ∷ []) (b ++ y ∷ [])
  Inserts-plain free =
      let none : is_due b ≡ true → y ≢ get_or b (length b - 1) Dominant = λ due. cc in
      subst (λ t. Inserts (a ++ cond t [] (y ∷ [])) (b ++ y ∷ [])) free (Inserts-push none)

  -- the stuff bit that is due
  pub Inserts-stuffed : is_due b ≡ true → y ≢ get_or b (length b - 1) Dominant → Inserts a (b ++ y ∷ [])
  Inserts-stuffed due other =
      subst (λ t. Inserts t (b ++ y ∷ [])) (ap (λ t. a ++ cond t [] (y ∷ [])) due ∙ append-nil a) (Inserts-push (λ e. other))
