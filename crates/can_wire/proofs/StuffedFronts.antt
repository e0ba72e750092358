-- A list has at most one stuffed frame at its front.
use Rattle.std.proofs.Common.{◌≡◌, ◌+◌, false, List, [], ◌∷◌, ◌++◌, length, refl, sym, ◌∙◌, ap, subst, arith, ◌⊎◌, inl, inr}
use Rattle.std.proofs.lemmas.List.{append-nil}
use Rattle.std.proofs.lemmas.Bool.{cond-false}
use Rattle.can_frame.specs.declared.level.Level.{Level}
use Rattle.can_wire.specs.Stuffing.{is_stuff_place, kept, Stuffs}
use Rattle.can_wire.specs.Layout.{IsComplete}
use Rattle.can_wire.proofs.StuffPlaces.{is_stuff_place-append, kept-within, kept-append}
use Rattle.can_wire.proofs.LayoutLengths.{IsComplete-ends}

-- of two fronts of a list one begins the other
pub fronts : (b d x y : List Level) → b ++ x ≡ d ++ y → ((t : List Level) × (d ≡ b ++ t)) ⊎ ((t : List Level) × (b ≡ d ++ t))
fronts [] d x y same = inl (d, refl)
fronts (p ∷ b) [] x y same = inr (p ∷ b, refl)
fronts (p ∷ b) (q ∷ d) x y same =
    let first : p ≡ q = cc in
    let rest : b ++ x ≡ d ++ y = cc in
    elim (fronts b d x y rest) [
      | inl longer ↦ inl (longer.0, let e = longer.1 in cc)
      | inr shorter ↦ inr (shorter.0, let e = shorter.1 in cc)
    ]

-- if a stuffed list continues another, its list continues the other's: no stuff bit is due after the first
pub Stuffs-goes_on : (u v b : List Level) (y : Level) (t : List Level) → Stuffs u b → Stuffs v (b ++ y ∷ t) → (w : List Level) × (v ≡ u ++ y ∷ w)
Stuffs-goes_on u v b y t s r =
    let more = b ++ y ∷ t in
    let start : 0 + length b ≡ length b = omega arith in
    let front : kept more 0 b ≡ u = kept-within b (y ∷ t) b 0 (omega arith) ∙ s.rest in
    let free : is_stuff_place more (length b) ≡ false = is_stuff_place-append b (y ∷ t) (length b) (omega arith) ∙ s.end in
    let w = kept more (length b + 1) t in
    let behind : kept more (length b) (y ∷ t) ≡ y ∷ w = cond-false (is_stuff_place more (length b)) w (y ∷ w) free in
    let whole : v ≡ u ++ y ∷ w =
    sym r.rest ∙ kept-append more b (y ∷ t) 0 ∙ ap (λ k. kept more 0 b ++ kept more k (y ∷ t)) start
    ∙ ap (λ z. kept more 0 b ++ z) behind ∙ ap (λ z. z ++ y ∷ w) front in
    (w, whole)

-- so the stuffed list of a whole frame does not go on to that of another
pub Stuffs-ends : (u v b t : List Level) → IsComplete u → IsComplete v → Stuffs u b → Stuffs v (b ++ t) → t ≡ []
Stuffs-ends u v b [] p q s r = refl
Stuffs-ends u v b (y ∷ t) p q s r =
    let more = Stuffs-goes_on u v b y t s r in
    let none : y ∷ more.0 ≡ [] = IsComplete-ends u (y ∷ more.0) p (subst IsComplete more.1 q) in
    cc

-- so two that begin one list are one
pub Stuffs-once : (u v b d x y : List Level) → IsComplete u → IsComplete v → Stuffs u b → Stuffs v d → b ++ x ≡ d ++ y → b ≡ d
Stuffs-once u v b d x y p q s r same = elim (fronts b d x y same) [
  | inl longer ↦
      let none = Stuffs-ends u v b longer.0 p q s (subst (Stuffs v) longer.1 r) in
      sym (append-nil b) ∙ ap (λ t. b ++ t) (sym none) ∙ sym longer.1
  | inr shorter ↦
      let none = Stuffs-ends v u d shorter.0 q p r (subst (Stuffs u) shorter.1 s) in
      shorter.1 ∙ ap (λ t. d ++ t) none ∙ append-nil d
]
