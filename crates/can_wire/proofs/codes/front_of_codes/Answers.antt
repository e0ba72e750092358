use Rattle.std.proofs.Common.{◌≡◌, ℕ, List, min, length, take, ap, sym, ◌∙◌, arith}
use Rattle.std.proofs.lemmas.List.{length-take, take_min}
use Rattle.can_frame.specs.Levels.{are_level_codes, levels_of_codes}
use Rattle.can_wire.proofs.codes.front_of_codes.Goals as goal

first : (codes : List ℕ) (count : ℕ) → count ≡ min 157 (length codes) → take count codes ≡ take 157 codes
first codes count is = ap (λ n. take n codes) is ∙ take_min 157 codes

pub levels_in-requires : goal.levels_in-requires
levels_in-requires c = omega (arith, length-take c.min.result c.args.codes.now, c.min.ensures)

pub returns-then-are_codes : goal.returns-then-are_codes
returns-then-are_codes c =
    let same = first c.args.codes.now c.min.result c.min.ensures in
    (ap are_level_codes (sym same) ∙ sym c.are_codes.ensures ∙ c.if-are_codes.true, c.levels_in.ensures ∙ ap levels_of_codes same)

pub returns-else-are_codes : goal.returns-else-are_codes
returns-else-are_codes c = ap are_level_codes (sym (first c.args.codes.now c.min.result c.min.ensures)) ∙ sym c.are_codes.ensures ∙ c.if-are_codes.false
