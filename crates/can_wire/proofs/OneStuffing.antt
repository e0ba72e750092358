-- A list has at most one stuffed list.
use Rattle.std.proofs.Common.{◌≡◌, ◌≢◌, suc, ◌+◌, ◌-◌, ◌<◌, true, false, List, [], ◌∷◌, ◌++◌, length, get_or, refl, sym, ◌∙◌, ap, subst, arith, append_assoc, length-append, inl, inr}
use Rattle.std.proofs.lemmas.List.{append-nil, get_or_at, get_or_append_left}
use Rattle.std.proofs.lemmas.Bool.{cases_Bool, cond-true, cond-false}
use Rattle.can_frame.specs.declared.level.Level.{Level}
use Rattle.can_frame.specs.declared.level.Level.TheVariants.{Dominant, Recessive}
use Rattle.can_wire.specs.Stuffing.{is_stuff_place, kept, Stuffs}
use Rattle.can_wire.proofs.StuffPlaces.{is_due, is_stuff_place-append, nonempty_from_due}

two_values : (x y z : Level) → x ≢ z → y ≢ z → x ≡ y
two_values Dominant Dominant z p q = refl
two_values Recessive Recessive z p q = refl
two_values Dominant Recessive Dominant p q = absurd (p refl)
two_values Dominant Recessive Recessive p q = absurd (q refl)
two_values Recessive Dominant Dominant p q = absurd (q refl)
two_values Recessive Dominant Recessive p q = absurd (p refl)

heads : {x y : Level} {xs ys : List Level} → x ∷ xs ≡ y ∷ ys → (x ≡ y) × (xs ≡ ys)
heads h = (cc, cc)

-- the place after a front p of b
place_is : (b p xs : List Level) → b ≡ p ++ xs → is_stuff_place b (length p) ≡ is_due p
place_is b p xs whole = ap (λ t. is_stuff_place t (length p)) whole ∙ is_stuff_place-append p xs (length p) (omega arith)

ended : (a b p : List Level) → Stuffs a b → b ≡ p ++ [] → is_due p ≡ false
ended a b p s whole =
    let e : b ≡ p = whole ∙ append-nil p in
    subst (λ t. is_due t ≡ false) e s.end

-- a stuff bit differs from the level before it
bit_differs : (a b p : List Level) (x : Level) (xs : List Level) → Stuffs a b → b ≡ p ++ x ∷ xs → is_due p ≡ true → x ≢ get_or p (length p - 1) Dominant
bit_differs a b p x xs s whole due =
    let some : 0 < length p = nonempty_from_due p due in
    let size : length b ≡ length p + suc (length xs) = ap length whole ∙ length-append p (x ∷ xs) in
    let here : get_or b (length p) Dominant ≡ x = ap (λ t. get_or t (length p) Dominant) whole ∙ get_or_at p x xs Dominant (length p) refl in
    let there : get_or b (length p - 1) Dominant ≡ get_or p (length p - 1) Dominant =
    ap (λ t. get_or t (length p - 1) Dominant) whole ∙ get_or_append_left p (x ∷ xs) Dominant (length p - 1) (omega arith) in
    λ q. s.differs (length p) (omega arith) (place_is b p (x ∷ xs) whole ∙ due) (here ∙ q ∙ sym there)

longer : (b p : List Level) (x : Level) (xs : List Level) → b ≡ p ++ x ∷ xs → b ≡ (p ++ x ∷ []) ++ xs
longer b p x xs h = h ∙ sym (append_assoc p (x ∷ []) xs)

-- two stuffed lists with one front go on alike if the same number of levels is kept of both
follow : (a b d c p xs ys : List Level) → Stuffs a b → Stuffs d c → b ≡ p ++ xs → c ≡ p ++ ys → kept b (length p) xs ≡ kept c (length p) ys → xs ≡ ys
follow a b d c p [] [] s t u v h = refl
follow a b d c p [] (y ∷ ys) s t u v h =
    let free : is_stuff_place c (length p) ≡ false = place_is c p (y ∷ ys) v ∙ ended a b p s u in
    let e : [] ≡ y ∷ kept c (length p + 1) ys = h ∙ cond-false (is_stuff_place c (length p)) (kept c (length p + 1) ys) (y ∷ kept c (length p + 1) ys) free in
    cc
follow a b d c p (x ∷ xs) [] s t u v h =
    let free : is_stuff_place b (length p) ≡ false = place_is b p (x ∷ xs) u ∙ ended d c p t v in
    let e : x ∷ kept b (length p + 1) xs ≡ [] = sym (cond-false (is_stuff_place b (length p)) (kept b (length p + 1) xs) (x ∷ kept b (length p + 1) xs) free) ∙ h in
    cc
follow a b d c p (x ∷ xs) (y ∷ ys) s t u v h =
    let size : length (p ++ x ∷ []) ≡ length p + 1 = length-append p (x ∷ []) in
    let pb = place_is b p (x ∷ xs) u in
    let pc = place_is c p (y ∷ ys) v in
    let more_b = kept b (length p + 1) xs in
    let more_c = kept c (length p + 1) ys in
    let go : x ≡ y → more_b ≡ more_c → x ∷ xs ≡ y ∷ ys = λ e r.
    let v' : c ≡ p ++ x ∷ ys = v ∙ ap (λ z. p ++ z ∷ ys) (sym e) in
    let rest = follow a b d c (p ++ x ∷ []) xs ys s t (longer b p x xs u) (longer c p x ys v')
    (ap (λ n. kept b n xs) size ∙ r ∙ ap (λ n. kept c n ys) (sym size)) in
    ap (λ z. z ∷ xs) e ∙ ap (λ z. y ∷ z) rest in
    elim (cases_Bool (is_due p)) [
      | inl due ↦
          let e = two_values x y (get_or p (length p - 1) Dominant) (bit_differs a b p x xs s u due) (bit_differs d c p y ys t v due) in
          go e (sym (cond-true (is_stuff_place b (length p)) more_b (x ∷ more_b) (pb ∙ due)) ∙ h ∙ cond-true (is_stuff_place c (length p)) more_c (y ∷ more_c) (pc ∙ due))
      | inr free ↦
          let e = sym (cond-false (is_stuff_place b (length p)) more_b (x ∷ more_b) (pb ∙ free)) ∙ h ∙ cond-false (is_stuff_place c (length p)) more_c (y ∷ more_c) (pc ∙ free) in
          let both = heads e in
          go both.0 both.1
    ]

pub Stuffs-only : (a b c : List Level) → Stuffs a b → Stuffs a c → b ≡ c
Stuffs-only a b c s t = follow a b a c [] b c s t refl refl (s.rest ∙ sym t.rest)
