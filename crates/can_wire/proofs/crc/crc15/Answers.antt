use Rattle.std.proofs.Common.{◌≡◌, ◌+◌, ◌*◌, ◌/◌, ◌<◌, [], ◌∷◌, ◌++◌, length, take, get_or, ap, subst, sym, ◌∙◌, arith, append_assoc}
use Rattle.std.proofs.lemmas.List.{append-nil, take_all, take_more, take-append-drop}
use Rattle.can_frame.specs.declared.level.Level.TheVariants.{Dominant}
use Rattle.can_frame.specs.Levels.{bits_of}
use Rattle.can_wire.specs.Crc.{IsCrc}
use Rattle.can_wire.proofs.CheckRuns.{IsCrc-same}
use Rattle.can_wire.proofs.DivisionLemmas.{IsCrc-only}
use Rattle.can_wire.proofs.OctetLemmas.{take-octet}
use Rattle.can_wire.proofs.crc.crc15.Goals as goal
use Rattle.can_wire.proofs.crc.crc15.Goals.{After-value}

pub loop-octet-init : goal.loop-octet-init
loop-octet-init c = record { so_far = c.new-run.ensures.check }

pub loop-octet-preserved : goal.loop-octet-preserved
loop-octet-preserved c =
    let levels = c.args.levels.now in
    let i = c.loop-octet.octet-index in
    let within : i < length levels / 8 = omega (arith, c.as_chunks.ensures.front_len) in
    let more = take-octet i _ levels c.as_chunks.result.0.now _ c.as_chunks.ensures.front within in
    record { so_far = IsCrc-same more (c.push_octet.ensures.check (take (8 * i) levels) c.loop-octet.invariant.so_far) }

pub loop-level-init : goal.loop-level-init
loop-level-init c =
    let levels = c.args.levels.now in
    let n = length levels / 8 * 8 in
    let e : 8 * c.loop-octet.octet-index ≡ n = omega (arith, c.as_chunks.ensures.front_len) in
    record { so_far = IsCrc-same (ap (λ m. take m levels) e ∙ sym (append-nil (take n levels))) c.loop-octet.invariant.so_far }

pub loop-level-preserved : goal.loop-level-preserved
loop-level-preserved c =
    let levels = c.args.levels.now in
    let rest = c.as_chunks.result.1.now in
    let front = take (length levels / 8 * 8) levels in
    let i = c.loop-level.level-index in
    let level = get_or rest i Dominant in
    let more : (front ++ take i rest) ++ level ∷ [] ≡ front ++ take (i + 1) rest =
    append_assoc front (take i rest) (level ∷ []) ∙ ap (λ l. front ++ l) (sym (take_more rest i Dominant c.loop-level-test.true)) in
    record { so_far = IsCrc-same more (c.push.ensures.check (front ++ take i rest) c.loop-level.invariant.so_far) }

is : (c : After-value) → IsCrc c.args.levels.now (bits_of 15 c.value.result)
is c =
    let levels = c.args.levels.now in
    let rest = c.as_chunks.result.1.now in
    let n = length levels / 8 * 8 in
    let all : take n levels ++ take c.loop-level.level-index rest ≡ levels =
    ap (λ l. take n levels ++ l) (take_all c.loop-level.level-index rest c.loop-level-test.false ∙ c.as_chunks.ensures.back) ∙ take-append-drop n levels in
    subst (λ v. IsCrc levels (bits_of 15 v)) (sym c.value.ensures.value) (IsCrc-same all c.loop-level.invariant.so_far)

pub returns-clause-divides : goal.returns-clause-divides
returns-clause-divides c = is c

pub returns-clause-only : goal.returns-clause-only
returns-clause-only c = λ check h. IsCrc-only c.args.levels.now check h ∙ sym (IsCrc-only c.args.levels.now _ (is c))

pub returns-clause-computed : goal.returns-clause-computed
returns-clause-computed c = IsCrc-only c.args.levels.now _ (is c)
