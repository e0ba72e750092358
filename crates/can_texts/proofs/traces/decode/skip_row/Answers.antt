use Rattle.std.proofs.Common.{[], subst, sym, ap, ◌∙◌}
use Rattle.can_texts.specs.TraceText.{levels_in}
use Rattle.can_texts.specs.Decoding.{Hears}
use Rattle.can_texts.proofs.DecodeSteps.{levels_in-row}
use Rattle.can_texts.proofs.traces.decode.skip_row.Goals as goal

pub returns-clause-hears : goal.returns-clause-hears
returns-clause-hears c =
    subst (λ l. Hears c.args.trace.now c.skip.new.self l []) (sym (ap levels_in c.recessive_count-count.ensures.row ∙ levels_in-row c.recessive_count-count.result)) c.skip.ensures.hears
