use Rattle.std.proofs.Common.{◌≡◌, ◌+◌, ◌-◌, ◌≤◌, ◌++◌, length, map, take, drop, ap, sym, subst, ◌∙◌, arith, length-drop, length-append}
use Rattle.std.proofs.lemmas.List.{append-nil, drop-drop, length-take, length-take-le, take_rest}
use Rattle.std.proofs.lemmas.Slice.{take-put_mid}
use borrow.Rule.Slice.PartMut.{put_mid}
use Rattle.can_frame.specs.Levels.{digit_of}
use Rattle.can_texts.specs.TraceText.{IsTraceText, levels_in}
use Rattle.can_texts.specs.Decoding.{AreSkipped}
use Rattle.can_texts.proofs.GatheredDigits.{AreDigits-text, Gathers-more}
use Rattle.can_texts.proofs.SkippedBytes.{AreSkipped-then}
use Rattle.can_texts.proofs.traces.gathered.gather.Goals as goal

pub overflow_add-now : goal.overflow_add-now
overflow_add-now c = omega (arith, c.loop-now.invariant.gathers.room, c.loop-now.invariant.long)

pub loop-now-preserved-then-are_digits : goal.loop-now-preserved-then-are_digits
loop-now-preserved-then-are_digits c =
    let l = c.loop-now in
    let bytes = c.args.bytes.now in
    let taken = l.now.taken in
    let count = l.now.count in
    let rest = take_rest bytes taken in
    let chunk = c.in-Some.ensures.cases in
    let block = c.in-Some.block.now in
    let within : taken + 16 ≤ length bytes = omega (arith, rw rest at chunk.enough, length-drop taken bytes, l.invariant.gathers.within) in
    let same : block ≡ take 16 (drop taken bytes) = rw rest at chunk.same in
    let put = c.copy_from_slice.new.self in
    let after : put ≡ block = c.copy_from_slice.ensures.after in
    let are = c.are_digits.ensures c.if-are_digits.true in
    let size : length put ≡ 16 = omega (arith, ap length after, ap length same, length-take 16 (drop taken bytes), length-drop taken bytes, within) in
    let room : count ≤ length l.digits = omega (arith, l.invariant.gathers.room) in
    let behind = drop (count + 16 - count) (drop count l.digits) in
    let long : length (put_mid count (count + 16 - count) l.digits put) ≡ 512 =
    omega (arith, length-append (take count l.digits) (put ++ behind), length-append put behind, size, length-take-le count l.digits room, length-drop (count + 16 - count) (drop count l.digits), length-drop count l.digits, l.invariant.long, c.loop-now-test.true) in
    record {
      gathers = Gathers-more bytes l.digits (put_mid count (count + 16 - count) l.digits put) l.now 16 (count + 16) l.invariant.gathers within
          (subst IsTraceText same (AreDigits-text block are)) (omega (arith, long, c.loop-now-test.true))
          (take-put_mid count (count + 16 - count) l.digits put (count + 16) (omega (arith, size)) room ∙ ap (λ t. take count l.digits ++ t) (after ∙ are)
          ∙ ap (λ t. take count l.digits ++ map digit_of (levels_in t)) same);
      long = long;
    }

pub loop-now-preserved-then-are_skipped : goal.loop-now-preserved-then-are_skipped
loop-now-preserved-then-are_skipped c =
    let l = c.loop-now in
    let bytes = c.args.bytes.now in
    let taken = l.now.taken in
    let k = c.skipped_count.result in
    let front = take_rest bytes taken in
    let chunk = c.in-Some.ensures.cases in
    let within : taken + 16 ≤ length bytes = omega (arith, rw front at chunk.enough, length-drop taken bytes, l.invariant.gathers.within) in
    let rest = take_rest bytes (taken + 16) in
    let first = subst AreSkipped (rw front at chunk.same) (c.are_skipped.ensures c.if-are_skipped.true) in
    let more = subst (λ t. AreSkipped (take k t)) (rest ∙ sym (drop-drop 16 taken bytes)) c.skipped_count.ensures.skipped in
    let both : AreSkipped (take (16 + k) (drop taken bytes)) = AreSkipped-then (drop taken bytes) 16 k first more in
    record {
      gathers = Gathers-more bytes l.digits l.digits l.now (16 + k) l.now.count l.invariant.gathers
          (omega (arith, within, rw rest at c.skipped_count.ensures.within, length-drop (taken + 16) bytes)) both.0 l.invariant.gathers.room
          (sym (append-nil (take l.now.count l.digits)) ∙ ap (λ t. take l.now.count l.digits ++ map digit_of t) (sym both.1));
      long = l.invariant.long;
    }

pub loop-now-preserved : goal.loop-now-preserved
loop-now-preserved c =
    let l = c.loop-now in
    let bytes = c.args.bytes.now in
    let taken = l.now.taken in
    let put = c.put_digits in
    let rest = take_rest bytes taken in
    let chunk = c.in-Some.ensures.cases in
    let within : taken + 16 ≤ length bytes = omega (arith, rw rest at chunk.enough, length-drop taken bytes, l.invariant.gathers.within) in
    let same = rw rest at chunk.same in
    record {
      gathers = Gathers-more bytes l.digits put.new.digits l.now 16 put.result l.invariant.gathers within
          (subst IsTraceText same (c.is_text.ensures c.if-is_text.true))
          (omega (arith, put.array_long, put.ensures.bound, c.loop-now-test.true))
          (put.ensures.digits ∙ ap (λ t. take l.now.count l.digits ++ map digit_of (levels_in t)) same);
      long = put.array_long;
    }
