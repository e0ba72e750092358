use Rattle.std.proofs.Common.{◌≡◌, [], length, arith, ap, ◌∙◌}
use Rattle.std.proofs.lemmas.Bool.{ne_eqb}
use Rattle.std.proofs.lemmas.List.{drop_all, nil_from_length}
use Rattle.std.proofs.lemmas.Result.{err_from_is_err_and}
use Rattle.can_stream.specs.Inbox.{Received}
use Rattle.can_texts.proofs.DecodeEndings.{Decoding-none, Decoding-flushed, Decoding-more, place_within, Told-unread, Told-unheard, Told-done, Told-finished}
use Rattle.can_stream.proofs.Turns.{PassesOn-flushed}
use Rattle.can_texts.proofs.traces.decode.decode_all.Goals as goal

pub loop-inbox-init : goal.loop-inbox-init
loop-inbox-init g c = record {
  decoding = Decoding-none _ _ _ _ _ _ _ c.begin-trace.ensures c.requires.empty (ap (λ (i : Received). i.taken) c.new-inbox.ensures);
  used = ap (λ (i : Received). i.unread) c.new-inbox.ensures;
  reader_unfailed = c.requires.reader_unfailed;
  reader_unended = c.requires.reader_unended;
  writer_unfailed = c.requires.writer_unfailed;
  fits = rw c.new-inbox.ensures (omega arith);
}

pub returns-in_err-flush_and_fill-clause-told : goal.returns-in_err-flush_and_fill-clause-told
returns-in_err-flush_and_fill-clause-told g c =
    let p = err_from_is_err_and c.from_residual.result c.from_residual.ensures.1 in
    let d = c.loop-inbox.invariant.decoding in
    let stops = c.in_err-flush_and_fill.ensures in
    let counted : c.flush_and_fill.new.self.taken ≡ length d.heard.input = omega (arith, stops.taken, ap length stops.none, d.counted) in
    rw (p.1, p.2) (Told-unread _ _ _ _ _ _ _ _ _ _ _ _ d _ (g.R.Source.has_failed c.flush_and_fill.new.source) _ c.flush_and_fill.new.self.taken c.flush_and_fill.new.self.unread
    stops.bytes stops.none counted stops.write_failed stops.err stops.flushed)

pub hear_bytes-requires-clause-within : goal.hear_bytes-requires-clause-within
hear_bytes-requires-clause-within g c =
    omega (arith, c.place.ensures, c.in_ok-flush_and_fill.ensures.taken, place_within _ _ _ _ _ _ _ _ _ c.loop-inbox.invariant.decoding)

pub returns-in_err-hear_bytes-clause-told : goal.returns-in_err-hear_bytes-clause-told
returns-in_err-hear_bytes-clause-told g c =
    let p = err_from_is_err_and c.from_residual-in_err-hear_bytes.result c.from_residual-in_err-hear_bytes.ensures.1 in
    let passes = PassesOn-flushed _ _ _ _ _ c.in_ok-flush_and_fill.ensures.write_failed c.in_ok-flush_and_fill.ensures.flushed in
    let d = Decoding-flushed _ _ _ _ _ _ _ _ _ _ _ c.loop-inbox.invariant.decoding passes in
    let start : c.place.result ≡ length d.heard.input = omega (arith, c.place.ensures, c.in_ok-flush_and_fill.ensures.taken, d.counted) in
    rw (p.1, p.2) (Told-unheard _ _ _ _ _ _ _ _ _ d.heard c.flush_and_fill.new.self.unread c.in_ok-flush_and_fill.ensures.bytes _ _ _ _ c.place.result start (rw c.unread-bytes.ensures at c.in_err-hear_bytes.ensures.err))

pub loop-inbox-preserved : goal.loop-inbox-preserved
loop-inbox-preserved g c =
    let passes = PassesOn-flushed _ _ _ _ _ c.in_ok-flush_and_fill.ensures.write_failed c.in_ok-flush_and_fill.ensures.flushed in
    let d = Decoding-flushed _ _ _ _ _ _ _ _ _ _ _ c.loop-inbox.invariant.decoding passes in
    let fill = c.in_ok-flush_and_fill.ensures in
    let unread = c.flush_and_fill.new.self.unread in
    record {
      decoding = Decoding-more _ _ _ _ _ _ _ _ _ d.heard unread fill.bytes _ _ _ _ _ d.counted (ap (λ (i : Received). i.taken) c.consume.ensures ∙ fill.taken)
          (rw c.unread-bytes.ensures at c.in_ok-hear_bytes.ensures.ok);
      used = ap (λ (i : Received). i.unread) c.consume.ensures ∙ rw c.unread-bytes.ensures (drop_all (length unread) unread (omega arith));
      reader_unfailed = fill.unfailed;
      reader_unended = fill.ended ∙ ne_eqb c.in_ok-flush_and_fill.field-0 0 (λ e. omega (arith, e, c.if-branch-gt0.true));
      writer_unfailed = c.in_ok-hear_bytes.ensures.failed;
      fits = omega (arith, ap (λ (i : Received). i.taken) c.consume.ensures, fill.fits);
    }

pub returns-in-Some-clause-told : goal.returns-in-Some-clause-told
returns-in-Some-clause-told g c =
    let passes = PassesOn-flushed _ _ _ _ _ c.in_ok-flush_and_fill.ensures.write_failed c.in_ok-flush_and_fill.ensures.flushed in
    let d = Decoding-flushed _ _ _ _ _ _ _ _ _ _ _ c.loop-inbox.invariant.decoding passes in
    let fill = c.in_ok-flush_and_fill.ensures in
    let none : c.flush_and_fill.new.self.unread ≡ [] = nil_from_length c.flush_and_fill.new.self.unread (omega (arith, fill.count, c.if-branch-gt0.false)) in
    Told-finished _ _ _ _ _ _ _ _ _ d.heard c.flush_and_fill.new.self.unread fill.bytes none c.put_finding.result c.in-Some.finding _ _ _ d.counted fill.within c.in-Some.ensures
    c.put_finding.ensures.ok c.put_finding.ensures.err c.put_finding.ensures.dropped c.put_finding.ensures.fault

pub returns-in-None-clause-told : goal.returns-in-None-clause-told
returns-in-None-clause-told g c =
    let passes = PassesOn-flushed _ _ _ _ _ c.in_ok-flush_and_fill.ensures.write_failed c.in_ok-flush_and_fill.ensures.flushed in
    let d = Decoding-flushed _ _ _ _ _ _ _ _ _ _ _ c.loop-inbox.invariant.decoding passes in
    let fill = c.in_ok-flush_and_fill.ensures in
    let none : c.flush_and_fill.new.self.unread ≡ [] = nil_from_length c.flush_and_fill.new.self.unread (omega (arith, fill.count, c.if-branch-gt0.false)) in
    Told-done _ _ _ _ _ _ _ _ _ d.heard c.flush_and_fill.new.self.unread fill.bytes none _ d.counted fill.within c.in-None.ensures
