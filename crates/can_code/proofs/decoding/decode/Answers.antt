use Rattle.std.proofs.Common.{◌+◌, ◌≤◌, ◌∷◌, Ok, length, take, drop, get_or, refl, sym, ap, subst, arith}
use Rattle.can_frame.specs.declared.level.Level.TheVariants.{Dominant}
use Rattle.can_wire.specs.Heard.{Spells}
use Rattle.can_code.specs.CodeFaults.{IsCodeFault}
use Rattle.can_code.specs.Decoder.{HasHeard}
use Rattle.can_code.proofs.DecoderLemmas.{HasHeard-short}
use Rattle.can_code.proofs.DecodingLemmas.{nothing_first, recessive_first, start_and_rest, front_longer, fault_at, found_at, all_heard, only_spelled}
use Rattle.can_code.proofs.decoding.decode.Goals as goal
use Rattle.can_code.proofs.decoding.decode.Goals.{After-fault-then-is_recessive, In-Ok-Some, After-fault-in-Err, After-fault-2}

-- the first level is no start of frame
no_start : (c : After-fault-then-is_recessive) → IsCodeFault c.args.levels.now c.fault-then-is_recessive.result
no_start c =
    subst (IsCodeFault c.args.levels.now) (sym c.fault-then-is_recessive.ensures)
    (recessive_first c.args.levels.now c.in-Some.first.now c.in-Some.rest.now c.in-Some.ensures.cases.0 (sym c.if-is_recessive.ensures))

-- a fault shows at a level
at_level : (c : After-fault-in-Err) → IsCodeFault c.args.levels.now c.fault-in-Err.result
at_level c =
    let l = c.args.levels.now in
    let rest = c.in-Some.rest.now in
    let i = c.loop-before.before in
    let whole = start_and_rest l c.in-Some.first.now rest c.in-Some.ensures.cases.0 (sym c.if-is_recessive.ensures) in
    subst (IsCodeFault l) (sym c.fault-in-Err.ensures)
    (fault_at rest i (get_or rest i Dominant) c.loop-before-test.true refl l whole c.in-Err.kind (c.in-Err.ensures.fault (Dominant ∷ take i rest) (drop (i + 1) rest) c.loop-before.invariant))

-- the frame is spelled
found : (c : In-Ok-Some) → Spells c.in-Ok-Some.heard (take (c.loop-before.before + 1 + 1) c.args.levels.now) × (c.loop-before.before + 1 + 1 ≤ length c.args.levels.now)
found c =
    let l = c.args.levels.now in
    let rest = c.in-Some.rest.now in
    let i = c.loop-before.before in
    let whole = start_and_rest l c.in-Some.first.now rest c.in-Some.ensures.cases.0 (sym c.if-is_recessive.ensures) in
    found_at rest i (get_or rest i Dominant) c.loop-before-test.true refl l whole c.in-Ok-Some.heard
    (c.in-Ok-Some.ensures.heard c.in-Ok-Some.heard (Dominant ∷ take i rest) (ap Ok c.in-Ok-Some.field-0-is) c.loop-before.invariant)

-- the levels end before the frame
short : (c : After-fault-2) → IsCodeFault c.args.levels.now c.fault-2.result
short c =
    let l = c.args.levels.now in
    let rest = c.in-Some.rest.now in
    let whole = start_and_rest l c.in-Some.first.now rest c.in-Some.ensures.cases.0 (sym c.if-is_recessive.ensures) in
    let p = c.loop-before in
    subst (IsCodeFault l) (sym c.fault-2.ensures) (HasHeard-short p.decoder l (subst (HasHeard p.decoder) (all_heard rest p.before l whole (omega arith)) p.invariant))

pub returns-in_default-clause-fault : goal.returns-in_default-clause-fault
returns-in_default-clause-fault c = subst (IsCodeFault c.args.levels.now) (sym c.fault.ensures) (nothing_first c.args.levels.now c.in_default.ensures.cases)

pub returns-then-is_recessive-clause-only : goal.returns-then-is_recessive-clause-only
returns-then-is_recessive-clause-only c = λ h w rest spelled whole. absurd ((no_start c).unspelled h w rest spelled whole)

pub returns-then-is_recessive-clause-fault : goal.returns-then-is_recessive-clause-fault
returns-then-is_recessive-clause-fault c = no_start c

pub loop-before-init : goal.loop-before-init
loop-before-init c = c.begin-decoder.ensures

pub returns-in-Ok-Some-clause-found : goal.returns-in-Ok-Some-clause-found
returns-in-Ok-Some-clause-found c = found c

pub returns-in-Ok-Some-clause-only : goal.returns-in-Ok-Some-clause-only
returns-in-Ok-Some-clause-only c = λ h w rest spelled whole.
    let mine = found c in
    only_spelled c.args.levels.now c.in-Ok-Some.heard h (c.loop-before.before + 1 + 1) w rest mine.1 mine.0 spelled whole

pub returns-in-Err-clause-only : goal.returns-in-Err-clause-only
returns-in-Err-clause-only c = λ h w rest spelled whole. absurd ((at_level c).unspelled h w rest spelled whole)

pub returns-in-Err-clause-fault : goal.returns-in-Err-clause-fault
returns-in-Err-clause-fault c = at_level c

pub loop-before-preserved : goal.loop-before-preserved
loop-before-preserved c =
    let rest = c.in-Some.rest.now in
    let i = c.loop-before.before in
    subst (HasHeard c.hear.new.self) (front_longer rest i (get_or rest i Dominant) c.loop-before-test.true refl)
    (c.in-Ok-None.ensures.more (ap Ok c.in-Ok-None.field-0-is) (Dominant ∷ take i rest) c.loop-before.invariant)

pub returns-clause-only : goal.returns-clause-only
returns-clause-only c = λ h w rest spelled whole. absurd ((short c).unspelled h w rest spelled whole)

pub returns-clause-fault : goal.returns-clause-fault
returns-clause-fault c = short c
