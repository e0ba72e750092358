-- Levels that are copied by means of numbers of them.
use Rattle.std.proofs.Common.{◌≡◌, ℕ, ◌+◌, ◌<◌, List, [], ◌∷◌, ◌++◌, length, take, drop, refl, sym, ap, ◌∙◌, arith, append_assoc, append-nil}
use Rattle.std.proofs.lemmas.List.{take-append-drop}
use Rattle.can_frame.specs.declared.level.Level.{Level}
use Rattle.can_frame.specs.declared.level.Level.TheVariants.{Dominant}
use Rattle.can_frame.specs.Levels.{bits_of, number_from}
use Rattle.can_frame.proofs.LevelLemmas.{bits_of-number_from}
use Rattle.can_wire.specs.Layout.{levels_at}
use Rattle.can_wire.proofs.LayoutPlaces.{length-filled, next_levels}

pub part-back : (u : List Level) (p n : ℕ) → bits_of n (number_from 0 (levels_at u p n)) ≡ levels_at u p n
part-back u p n = ap (λ k. bits_of k (number_from 0 (levels_at u p n))) (sym (length-filled n (drop p u))) ∙ bits_of-number_from 0 (levels_at u p n)

none-behind : (u : List Level) → drop (length u) u ≡ []
none-behind [] = refl
none-behind (x ∷ u) = none-behind u

-- a start of frame, some levels, and the rest
pub in-parts : (u : List Level) (first rest : ℕ) → 1 + first + rest ≡ length u → take 1 u ≡ Dominant ∷ [] → (Dominant ∷ [] ++ levels_at u 1 first) ++ levels_at u (1 + first) rest ≡ u
in-parts u first rest all start =
    let second : drop 1 u ≡ levels_at u 1 first ++ drop (1 + first) u = next_levels u 1 first (1 + first) refl (omega (arith, all)) in
    let third : drop (1 + first) u ≡ levels_at u (1 + first) rest ++ drop (length u) u = next_levels u (1 + first) rest (length u) all (omega arith) in
    let last : drop (1 + first) u ≡ levels_at u (1 + first) rest = third ∙ ap (λ l. levels_at u (1 + first) rest ++ l) (none-behind u) ∙ append-nil (levels_at u (1 + first) rest) in
    append_assoc (Dominant ∷ []) (levels_at u 1 first) (levels_at u (1 + first) rest)
    ∙ ap (λ l. Dominant ∷ [] ++ (levels_at u 1 first ++ l)) (sym last)
    ∙ ap (λ l. Dominant ∷ [] ++ l) (sym second)
    ∙ ap (λ l. l ++ drop 1 u) (sym start)
    ∙ take-append-drop 1 u

pub some-start : (u : List Level) → take 1 u ≡ Dominant ∷ [] → 0 < length u
some-start [] e = absurd (let h : [] ≡ Dominant ∷ [] = e in cc)
some-start (x ∷ u) e = omega arith
