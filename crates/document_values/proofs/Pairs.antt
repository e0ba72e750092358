-- Arrays of two values, and of three.
use Rattle.std.proofs.Common.{◌≡◌, List, [], ◌∷◌, refl, length, map, get_or, sym, ap, ◌∙◌, arith}
use Rattle.toml.specs.Data.{Data, Items, array, item, no_items}
use Rattle.toml.specs.View.{view}
use Rattle.toml.specs.declared.value.Value.{Value}
use Rattle.document_values.specs.Values.{IsArray, elements, elements_of, three, two}

-- two arrays with the same elements are the same
same-items : (xs ys : Items) → elements_of xs ≡ elements_of ys → xs ≡ ys
same-items no_items no_items e = refl
same-items no_items (item d ys) e = absurd (cc)
same-items (item c xs) no_items e = absurd (cc)
same-items (item c xs) (item d ys) e =
    let firsts : c ≡ d = cc in
    let rests : elements_of xs ≡ elements_of ys = cc in
    ap (λ (f : Data). item f xs) firsts ∙ ap (λ (zs : Items). item d zs) (same-items xs ys rests)

two-view : (values : List Value) (x y : Value) → length values ≡ 2 → x ≡ get_or values 0 x → y ≡ get_or values 1 y → map view values ≡ view x ∷ view y ∷ []
two-view [] x y size first second = absurd (omega (arith, size))
two-view (v ∷ []) x y size first second = absurd (omega (arith, size))
two-view (v ∷ w ∷ []) x y size first second = ap (λ d. d ∷ view w ∷ []) (sym (ap view first)) ∙ ap (λ d. view x ∷ d ∷ []) (sym (ap view second))
two-view (v ∷ w ∷ u ∷ values) x y size first second = absurd (omega (arith, size))

-- an array of these two values
pub two-values : (values : List Value) (d : Data) (x y : Value) → IsArray d → map view values ≡ elements d → length values ≡ 2 → x ≡ get_or values 0 x → y ≡ get_or values 1 y →
    d ≡ two (view x) (view y)
two-values values d x y is are size first second =
    let listed : elements_of is.0 ≡ view x ∷ view y ∷ [] = sym (are ∙ ap elements is.1) ∙ two-view values x y size first second in
    is.1 ∙ ap array (same-items is.0 (item (view x) (item (view y) no_items)) listed)

three-view : (values : List Value) (x y z : Value) → length values ≡ 3 → x ≡ get_or values 0 x → y ≡ get_or values 1 y → z ≡ get_or values 2 z → map view values ≡ view x ∷ view y ∷ view z ∷ []
three-view [] x y z size first second third = absurd (omega (arith, size))
three-view (v ∷ []) x y z size first second third = absurd (omega (arith, size))
three-view (v ∷ w ∷ []) x y z size first second third = absurd (omega (arith, size))
three-view (v ∷ w ∷ u ∷ []) x y z size first second third =
    ap (λ d. d ∷ view w ∷ view u ∷ []) (sym (ap view first)) ∙ ap (λ d. view x ∷ d ∷ view u ∷ []) (sym (ap view second)) ∙ ap (λ d. view x ∷ view y ∷ d ∷ []) (sym (ap view third))
three-view (v ∷ w ∷ u ∷ t ∷ values) x y z size first second third = absurd (omega (arith, size))

-- an array of these three values
pub three-values : (values : List Value) (d : Data) (x y z : Value) → IsArray d → map view values ≡ elements d → length values ≡ 3 → x ≡ get_or values 0 x → y ≡ get_or values 1 y → z ≡ get_or values 2 z →
    d ≡ three (view x) (view y) (view z)
three-values values d x y z is are size first second third =
    let listed : elements_of is.0 ≡ view x ∷ view y ∷ view z ∷ [] = sym (are ∙ ap elements is.1) ∙ three-view values x y z size first second third in
    is.1 ∙ ap array (same-items is.0 (item (view x) (item (view y) (item (view z) no_items))) listed)

-- the values of such arrays are their own
pub same-three : (a b c x y z : Data) → three a b c ≡ three x y z → (a ≡ x) × (b ≡ y) × (c ≡ z)
same-three a b c x y z e = (cc, cc, cc)
