use Rattle.std.proofs.Common.{[]}
use Rattle.std.proofs.KnownBytes.{Appends-nil}
use Rattle.can_texts.specs.Decoded.{BeginsDecoding, DecodesSoFar}
use Rattle.can_texts.specs.Decoding.{Decodes}
use Rattle.can_texts.proofs.DecodeEndings.{BeginsDecoding-within}
use Rattle.can_stream.proofs.Flushing.{Told-flushed, Told-unflushed, Told-ok, Told-err, Told-weaker}
use Rattle.can_texts.proofs.traces.decode.decode_stream.Goals as goal

pub returns-in_err-flush-clause-write : goal.returns-in_err-flush-clause-write
returns-in_err-flush-clause-write g c =
    let decoded = c.decode_all-decoded in
    λ _. Told-unflushed _ _ _ _ _ _ _ decoded.new.out (Decodes decoded.result) decoded.ensures.told BeginsDecoding
    (λ input output taken left. BeginsDecoding-within decoded.result input output decoded.new.out taken left) c.in_err-flush.ensures.err

pub returns-in_ok-flush-clause-ok : goal.returns-in_ok-flush-clause-ok
returns-in_ok-flush-clause-ok g c =
    let decoded = c.decode_all-decoded in
    Told-ok _ _ _ _ _ _ Decodes decoded.result (Told-flushed _ _ _ _ _ _ _ decoded.new.out (Decodes decoded.result) decoded.ensures.told c.in_ok-flush.ensures.ok)

pub returns-in_ok-flush-clause-long : goal.returns-in_ok-flush-clause-long
returns-in_ok-flush-clause-long g c =
    let decoded = c.decode_all-decoded in
    Told-err _ _ _ _ _ _ Decodes decoded.result _ (Told-flushed _ _ _ _ _ _ _ decoded.new.out (Decodes decoded.result) decoded.ensures.told c.in_ok-flush.ensures.ok)

pub returns-in_ok-flush-clause-byte : goal.returns-in_ok-flush-clause-byte
returns-in_ok-flush-clause-byte g c =
    let decoded = c.decode_all-decoded in
    λ place. Told-err _ _ _ _ _ _ Decodes decoded.result _ (Told-flushed _ _ _ _ _ _ _ decoded.new.out (Decodes decoded.result) decoded.ensures.told c.in_ok-flush.ensures.ok)

pub returns-else-not-failed-clause-write : goal.returns-else-not-failed-clause-write
returns-else-not-failed-clause-write g c =
    let decoded = c.decode_all-decoded in
    λ is.
    let told = rw (decoded.ensures.dropped is) at decoded.ensures.told in
    Told-err _ _ _ _ _ _ Decodes decoded.result _ (Told-flushed _ _ _ _ _ _ decoded.new.w [] (Decodes decoded.result) told (Appends-nil _)) is

pub returns-in_ok-flush-clause-read : goal.returns-in_ok-flush-clause-read
returns-in_ok-flush-clause-read g c =
    let decoded = c.decode_all-decoded in
    λ is. Told-weaker _ _ _ _ _ _ _ DecodesSoFar (λ input output both. both.0)
    (Told-err _ _ _ _ _ _ Decodes decoded.result _ (Told-flushed _ _ _ _ _ _ _ decoded.new.out (Decodes decoded.result) decoded.ensures.told c.in_ok-flush.ensures.ok) is)
