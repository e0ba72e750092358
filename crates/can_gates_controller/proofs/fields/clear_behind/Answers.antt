use Rattle.std.proofs.Common.{◌≡◌, ◌/◌, ◌∙◌, get_or, length, refl, arith, ◌<◌}
use Rattle.std.proofs.lemmas.List.{length-set}
use Rattle.std.specs.Prelude.{nat_lt, ◌&&◌}
use Rattle.can_frame.specs.Parts.{byte_count}
use Rattle.can_frame.specs.Stored.{byte_count_le}
use Rattle.can_gates.specs.Circuit.{value, never}
use Rattle.can_gates.proofs.Constants.{zero-kept}
use Rattle.can_gates_mac.specs.Nibbles.{nibble}
use Rattle.can_gates_controller.proofs.Cleared.{cleared_is}
use Rattle.can_gates_controller.proofs.FrontPlaces.{written_place}
use Rattle.can_gates_controller.proofs.fields.clear_behind.Goals as goal

pub loop-place-preserved : goal.loop-place-preserved
loop-place-preserved c =
    let l = c.loop-place in
    let within : l.place < length l.all = omega (arith, c.loop-place-test.true, l.auto.place-end, l.invariant.0) in
    let bytes = c.args.bytes.now in (
      length-set l.all l.place c.and.result ∙ l.invariant.0,
      (
        c.and.ensures.made.0 ∙ c.has_byte-counts.ensures.0 ∙ l.invariant.1.0,
        λ v keeps.
            let bit = c.and.ensures.made.1 v keeps in
            let counts = c.has_byte-counts.ensures.1 v bit.0 in
            let before = l.invariant.1.1 v counts.0 in
            let n = byte_count (value v c.args.remote) (nibble v c.args.dlc) in
            let is = bit.1 ∙ rw (counts.1, c.literal_at.ensures) refl in
            (before.0, λ p h. written_place v (λ q. nat_lt (q / 8) n && value v (get_or bytes q never)) l.all c.and.result l.place p within is before.1 h),
      ),
    )

pub returns : goal.returns
returns c =
    let l = c.loop-place in
    let e : l.place ≡ 64 = omega (arith, c.loop-place-test.false, l.auto.place-end) in
    let long : length l.all ≡ 64 = l.invariant.0 in (
      l.invariant.1.0,
      λ v keeps.
          let whole = l.invariant.1.1 v keeps in
          let remote = value v c.args.remote in
          let dlc = nibble v c.args.dlc in
          (whole.0, cleared_is v (zero-kept v c.args.circuit.now whole.0) l.all c.args.bytes.now (byte_count remote dlc) long (λ p h. whole.1 p (rw e h)) (byte_count_le remote dlc)),
    )
