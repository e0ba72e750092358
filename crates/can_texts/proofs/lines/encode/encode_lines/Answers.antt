use Rattle.std.proofs.Common.{[]}
use Rattle.std.proofs.KnownBytes.{Appends-nil}
use Rattle.can_texts.specs.Answering.{Encodes}
use Rattle.can_texts.specs.Coded.{BeginsEncoding}
use Rattle.can_texts.proofs.Endings.{BeginsEncoding-from}
use Rattle.can_stream.proofs.Flushing.{Told-flushed, Told-unflushed, Told-ok, Told-err}
use Rattle.can_texts.proofs.lines.encode.encode_lines.Goals as goal

pub returns-in_err-flush-clause-write : goal.returns-in_err-flush-clause-write
returns-in_err-flush-clause-write g c =
    let answered = c.answer_lines-answered in
    let ended = g.R.Source.has_ended answered.new.r in
    λ _. Told-unflushed _ _ _ _ _ _ _ answered.new.out (Encodes answered.result ended) answered.ensures.told (BeginsEncoding ended)
    (λ input output taken left. BeginsEncoding-from answered.result ended input output answered.new.out taken left answered.ensures.ended) c.in_err-flush.ensures.err

pub returns-in_ok-flush-clause-ok : goal.returns-in_ok-flush-clause-ok
returns-in_ok-flush-clause-ok g c =
    let answered = c.answer_lines-answered in
    let ended = g.R.Source.has_ended answered.new.r in
    Told-ok _ _ _ _ _ _ (λ result. Encodes result ended) answered.result (Told-flushed _ _ _ _ _ _ _ answered.new.out (Encodes answered.result ended) answered.ensures.told c.in_ok-flush.ensures.ok)

pub returns-in_ok-flush-clause-long : goal.returns-in_ok-flush-clause-long
returns-in_ok-flush-clause-long g c =
    let answered = c.answer_lines-answered in
    let ended = g.R.Source.has_ended answered.new.r in
    Told-err _ _ _ _ _ _ (λ result. Encodes result ended) answered.result _ (Told-flushed _ _ _ _ _ _ _ answered.new.out (Encodes answered.result ended) answered.ensures.told c.in_ok-flush.ensures.ok)

pub returns-in_ok-flush-clause-line : goal.returns-in_ok-flush-clause-line
returns-in_ok-flush-clause-line g c =
    let answered = c.answer_lines-answered in
    let ended = g.R.Source.has_ended answered.new.r in
    λ n fault. Told-err _ _ _ _ _ _ (λ result. Encodes result ended) answered.result _ (Told-flushed _ _ _ _ _ _ _ answered.new.out (Encodes answered.result ended) answered.ensures.told c.in_ok-flush.ensures.ok)

pub returns-else-not-failed-clause-write : goal.returns-else-not-failed-clause-write
returns-else-not-failed-clause-write g c =
    let answered = c.answer_lines-answered in
    let ended = g.R.Source.has_ended answered.new.r in
    λ is.
    let told = rw (answered.ensures.dropped is) at answered.ensures.told in
    Told-err _ _ _ _ _ _ (λ result. Encodes result ended) answered.result _ (Told-flushed _ _ _ _ _ _ answered.new.w [] (Encodes answered.result ended) told (Appends-nil _)) is
