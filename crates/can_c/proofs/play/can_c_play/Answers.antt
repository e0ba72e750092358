use Rattle.std.proofs.Common.{◌≡◌, ◌≢◌, ℕ, sym, ◌∙◌}
use Rattle.can_c.specs.declared.status.Status.{Status}
use Rattle.can_c.specs.declared.status.Status.TheVariants.{Done}
use Rattle.can_c.specs.Play.{held_in}
use Rattle.can_c.specs.Statuses.{done, status_code}
use Rattle.can_c.proofs.PlayLemmas.{refusal-named}
use Rattle.can_c.proofs.StatusLemmas.{done_only}
use Rattle.can_c.proofs.play.can_c_play.Goals as goal

-- what is refused isn't done
never : (why : Status) (code : ℕ) → why ≢ Done → code ≡ status_code why → code ≡ done → ⊥
never why code named is so = named (done_only why (sym is ∙ so))

pub returns-in-Err-clause-why : goal.returns-in-Err-clause-why
returns-in-Err-clause-why c = λ _. (c.in-Err.why, (c.in-Err.ensures.why, c.code-in-Err.ensures))

pub returns-in-Err-clause-taken : goal.returns-in-Err-clause-taken
returns-in-Err-clause-taken c = λ is.
    absurd (never c.in-Err.why c.code-in-Err.result (refusal-named (held_in c.args.handles.now) c.args.offers.now c.args.hits.now c.in-Err.why c.in-Err.ensures.why) c.code-in-Err.ensures is)

pub returns-in-Err-clause-ports : goal.returns-in-Err-clause-ports
returns-in-Err-clause-ports c = λ is.
    absurd (never c.in-Err.why c.code-in-Err.result (refusal-named (held_in c.args.handles.now) c.args.offers.now c.args.hits.now c.in-Err.why c.in-Err.ensures.why) c.code-in-Err.ensures is)

pub returns-in-Err-clause-levels : goal.returns-in-Err-clause-levels
returns-in-Err-clause-levels c = λ is.
    absurd (never c.in-Err.why c.code-in-Err.result (refusal-named (held_in c.args.handles.now) c.args.offers.now c.args.hits.now c.in-Err.why c.in-Err.ensures.why) c.code-in-Err.ensures is)

pub returns-in-Err-clause-count : goal.returns-in-Err-clause-count
returns-in-Err-clause-count c = λ is.
    absurd (never c.in-Err.why c.code-in-Err.result (refusal-named (held_in c.args.handles.now) c.args.offers.now c.args.hits.now c.in-Err.why c.in-Err.ensures.why) c.code-in-Err.ensures is)

pub returns-in-Err-clause-network : goal.returns-in-Err-clause-network
returns-in-Err-clause-network c = λ is.
    absurd (never c.in-Err.why c.code-in-Err.result (refusal-named (held_in c.args.handles.now) c.args.offers.now c.args.hits.now c.in-Err.why c.in-Err.ensures.why) c.code-in-Err.ensures is)
