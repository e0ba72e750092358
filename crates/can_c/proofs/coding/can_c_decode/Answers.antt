use Rattle.std.proofs.Common.{refl, ◌∙◌, ap, subst, arith}
use Rattle.std.proofs.lemmas.List.{length-map}
use Rattle.can_frame.specs.Levels.{level_of, levels_of_codes}
use Rattle.can_wire.specs.Heard.{Spells}
use Rattle.can_c.specs.PlainFrames.{plain_heard}
use Rattle.can_c.specs.Statuses.{status_code}
use Rattle.can_c.proofs.DecodeLemmas.{first_levels, one_found}
use Rattle.can_c.proofs.LongestFrame.{length-front, take-front, Spells-front, IsCodeFault-levels}
use Rattle.can_c.proofs.coding.can_c_decode.Goals as goal

pub returns-in-Ok-clause-found : goal.returns-in-Ok-clause-found
returns-in-Ok-clause-found c =
    let first = first_levels c.args.levels.now _ c.as_slice.result.now c.in-Some.ensures.1 c.as_slice.ensures.value in
    let begins = take-front (levels_of_codes c.args.levels.now) c.as_slice.result.now first _ c.in-Ok.ensures.found.1 in
    λ _. (_, (subst (Spells _) begins c.in-Ok.ensures.found.0, c.of.ensures))

pub returns-in-Ok-clause-within : goal.returns-in-Ok-clause-within
returns-in-Ok-clause-within c =
    let first = first_levels c.args.levels.now _ c.as_slice.result.now c.in-Some.ensures.1 c.as_slice.ensures.value in
    λ _. omega (arith, c.in-Ok.ensures.found.1, length-front (levels_of_codes c.args.levels.now) c.as_slice.result.now first, length-map c.args.levels.now level_of)

pub returns-in-Ok-clause-only : goal.returns-in-Ok-clause-only
returns-in-Ok-clause-only c =
    let first = first_levels c.args.levels.now _ c.as_slice.result.now c.in-Some.ensures.1 c.as_slice.ensures.value in
    λ fine h w rest spelled whole.
    let same = one_found _ _ _ refl (c.in-Ok.ensures.only h w _ spelled (Spells-front (levels_of_codes c.args.levels.now) c.as_slice.result.now first h w rest spelled whole)) in
    (c.code-in-Ok.ensures, c.of.ensures ∙ ap (λ found. plain_heard found.0) same, ap (λ found. found.1) same)

pub returns-in-Err-clause-only : goal.returns-in-Err-clause-only
returns-in-Err-clause-only c =
    let first = first_levels c.args.levels.now _ c.as_slice.result.now c.in-Some.ensures.1 c.as_slice.ensures.value in
    λ fine h w rest spelled whole. absurd (c.in-Err.ensures.fault.unspelled h w _ spelled (Spells-front (levels_of_codes c.args.levels.now) c.as_slice.result.now first h w rest spelled whole))

pub returns-in-Err-clause-fault : goal.returns-in-Err-clause-fault
returns-in-Err-clause-fault c =
    let first = first_levels c.args.levels.now _ c.as_slice.result.now c.in-Some.ensures.1 c.as_slice.ensures.value in
    λ fine bad. (c.in-Err.fault, (IsCodeFault-levels (levels_of_codes c.args.levels.now) c.as_slice.result.now first c.in-Err.fault c.in-Err.ensures.fault, c.code-in-Err.ensures ∙ ap status_code c.of_fault.ensures, refl))
