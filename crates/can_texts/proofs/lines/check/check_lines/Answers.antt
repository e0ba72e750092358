use Rattle.std.proofs.Common.{[]}
use Rattle.std.proofs.KnownBytes.{Appends-nil}
use Rattle.can_texts.specs.Checked.{BeginsChecking, ChecksAll}
use Rattle.can_texts.specs.Checking.{Comes}
use Rattle.can_texts.proofs.CheckEndings.{BeginsChecking-from}
use Rattle.can_stream.proofs.Flushing.{Told-flushed, Told-unflushed, Told-ok, Told-err}
use Rattle.can_texts.proofs.lines.check.check_lines.Goals as goal

pub returns-in_err-flush-clause-write : goal.returns-in_err-flush-clause-write
returns-in_err-flush-clause-write g c =
    let checked = c.check_all-checked in
    let ended = g.R.Source.has_ended checked.new.r in
    λ _. Told-unflushed _ _ _ _ _ _ _ checked.new.out (Comes ChecksAll checked.result ended) checked.ensures.told (BeginsChecking ended)
    (λ input output taken left. BeginsChecking-from checked.result ended input output checked.new.out taken left checked.ensures.ended) c.in_err-flush.ensures.err

pub returns-in_ok-flush-clause-ok : goal.returns-in_ok-flush-clause-ok
returns-in_ok-flush-clause-ok g c =
    let checked = c.check_all-checked in
    let ended = g.R.Source.has_ended checked.new.r in
    Told-ok _ _ _ _ _ _ (λ result. Comes ChecksAll result ended) checked.result (Told-flushed _ _ _ _ _ _ _ checked.new.out (Comes ChecksAll checked.result ended) checked.ensures.told c.in_ok-flush.ensures.ok)

pub returns-in_ok-flush-clause-long : goal.returns-in_ok-flush-clause-long
returns-in_ok-flush-clause-long g c =
    let checked = c.check_all-checked in
    let ended = g.R.Source.has_ended checked.new.r in
    Told-err _ _ _ _ _ _ (λ result. Comes ChecksAll result ended) checked.result _ (Told-flushed _ _ _ _ _ _ _ checked.new.out (Comes ChecksAll checked.result ended) checked.ensures.told c.in_ok-flush.ensures.ok)

pub returns-in_ok-flush-clause-line : goal.returns-in_ok-flush-clause-line
returns-in_ok-flush-clause-line g c =
    let checked = c.check_all-checked in
    let ended = g.R.Source.has_ended checked.new.r in
    λ n fault. Told-err _ _ _ _ _ _ (λ result. Comes ChecksAll result ended) checked.result _ (Told-flushed _ _ _ _ _ _ _ checked.new.out (Comes ChecksAll checked.result ended) checked.ensures.told c.in_ok-flush.ensures.ok)

pub returns-in_ok-flush-clause-read : goal.returns-in_ok-flush-clause-read
returns-in_ok-flush-clause-read g c =
    let checked = c.check_all-checked in
    let ended = g.R.Source.has_ended checked.new.r in
    Told-err _ _ _ _ _ _ (λ result. Comes ChecksAll result ended) checked.result _ (Told-flushed _ _ _ _ _ _ _ checked.new.out (Comes ChecksAll checked.result ended) checked.ensures.told c.in_ok-flush.ensures.ok)

pub returns-in_ok-flush-clause-byte : goal.returns-in_ok-flush-clause-byte
returns-in_ok-flush-clause-byte g c =
    let checked = c.check_all-checked in
    let ended = g.R.Source.has_ended checked.new.r in
    λ place. Told-err _ _ _ _ _ _ (λ result. Comes ChecksAll result ended) checked.result _ (Told-flushed _ _ _ _ _ _ _ checked.new.out (Comes ChecksAll checked.result ended) checked.ensures.told c.in_ok-flush.ensures.ok)

pub returns-else-not-failed-clause-write : goal.returns-else-not-failed-clause-write
returns-else-not-failed-clause-write g c =
    let checked = c.check_all-checked in
    let ended = g.R.Source.has_ended checked.new.r in
    λ is.
    let told = rw (checked.ensures.dropped is) at checked.ensures.told in
    Told-err _ _ _ _ _ _ (λ result. Comes ChecksAll result ended) checked.result _ (Told-flushed _ _ _ _ _ _ checked.new.w [] (Comes ChecksAll checked.result ended) told (Appends-nil _)) is
