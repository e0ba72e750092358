use Rattle.std.proofs.Common.{ap, arith, length, map, sym, ◌∙◌, ◌≡◌}
use Rattle.std.specs.Prelude.{slice_range}
use Rattle.std.proofs.lemmas.Bool.{false≢true}
use Rattle.std.proofs.lemmas.Bool.Decides.{Decides-eqb}
use Rattle.std.proofs.lemmas.Slice.Eq.{slice_eq-Decides}
use Rattle.can_texts.proofs.DigitRanges.{length-slice_range}
use Rattle.can_frame.specs.Levels.{digit_of}
use Rattle.can_wire.specs.Wire.{driven}
use Rattle.can_texts.proofs.DigitFronts.{IsCommonFront-levels}
use Rattle.can_texts.proofs.VectorLemmas.{ComparesDigits-agrees}
use Rattle.can_texts.proofs.lines.vector.judge_digits.Goals as goal

pub returns-then-eq-clause-ok : goal.returns-then-eq-clause-ok
returns-then-eq-clause-ok c =
    let digits = c.args.digits.now in
    let d = c.driven_digits-start in
    let own = slice_range d.new.digits d.result.0 d.result.1 in
    let same : digits ≡ own = (slice_eq-Decides Decides-eqb digits own c.eq.result c.eq.ensures).0 c.if-eq.true in
    ComparesDigits-agrees digits c.args.frame.now (same ∙ d.ensures.digits)
    (omega (arith, ap length same, length-slice_range d.new.digits d.result.0 d.result.1, d.ensures.few))

pub returns-clause-ok : goal.returns-clause-ok
returns-clause-ok c =
    let digits = c.args.digits.now in
    let d = c.driven_digits-start in
    let own = slice_range d.new.digits d.result.0 d.result.1 in
    let front = c.common_length-place in
    let good = c.in_ok-check_digits.ensures.ok in
    record {
      levels = good.0;
      are_levels = good.1;
      compares = (
        λ same. false≢true (sym c.if-eq.false ∙ (slice_eq-Decides Decides-eqb digits own c.eq.result c.eq.ensures).1 (good.1.digits_are ∙ ap (map digit_of) same ∙ sym d.ensures.digits)),
        IsCommonFront-levels good.0 (driven c.args.frame.now) digits own front.result good.1.digits_are d.ensures.digits front.ensures,
      );
    }
