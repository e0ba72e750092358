use Rattle.std.proofs.Common.{◌≡◌, ◌+◌, ◌-◌, ◌*◌, ◌/◌, ◌%◌, ◌^◌, get_or, map, ap, subst, sym, ◌∙◌, arith}
use Rattle.can_frame.specs.declared.level.Level.TheVariants.{Recessive}
use Rattle.can_frame.specs.Levels.{bits_of, digit_of}
use Rattle.can_wire.specs.Stuffing.{stuffed_from}
use Rattle.can_wire.specs.StuffSteps.{HasDigits}
use Rattle.can_wire.proofs.LevelLemmas.{bits_of-zero, length-bits_of}
use Rattle.can_wire.proofs.CrcBytes.{byte_is}
use Rattle.can_wire.proofs.DrivenDigits.{HasDigits-all, HasDigits-none, next_octet}
use Rattle.can_wire.proofs.digits.put_stuffed.Goals as goal

pub loop-left-init : goal.loop-left-init
loop-left-init c =
    let x = c.args.number / 2 ^ (8 * c.args.octets) in
    let nothing : 8 * (c.args.octets - c.args.octets) ≡ 0 = omega arith in
    record {
      within = omega arith;
      has = subst (HasDigits c.args.digits.now _) (sym (ap (λ n. bits_of n x) nothing ∙ bits_of-zero x))
          (HasDigits-none c.args.digits.now c.row_of.result c.row_of.ensures.small c.row_of.ensures.last c.row_of.ensures.run);
    }

pub put_octet-now-requires-clause-room : goal.put_octet-now-requires-clause-room
put_octet-now-requires-clause-room c =
    let l = c.loop-left in
    let done = 8 * (c.args.octets - l.left) in
    omega (arith, l.invariant.has.room, length-bits_of done (c.args.number / 2 ^ (8 * l.left)), c.loop-left-test.true, l.invariant.within, c.requires)

pub loop-left-preserved : goal.loop-left-preserved
loop-left-preserved c =
    let l = c.loop-left in
    let number = c.args.number in
    let done = c.args.octets - l.left in
    let left = l.left - 1 in
    let more : left + 1 ≡ l.left = omega (arith, c.loop-left-test.true) in
    let counted : done + 1 ≡ c.args.octets - left = omega (arith, c.loop-left-test.true, l.invariant.within) in
    let octet = get_or c.to_le_bytes-bytes.result left 0 in
    let octet_is : octet ≡ number / 2 ^ (8 * left) % 256 =
    ap (λ b. get_or b left 0) c.to_le_bytes-bytes.ensures ∙ byte_is left number (omega (arith, c.requires, l.invariant.within)) in
    record {
      within = omega (arith, l.invariant.within);
      has = subst (HasDigits c.put_octet-now.new.digits c.put_octet-now.result)
          (next_octet number done left octet octet_is ∙ ap (λ n. bits_of (8 * n) (number / 2 ^ (8 * left))) counted)
          (c.put_octet-now.ensures (bits_of (8 * done) (number / 2 ^ (8 * (left + 1)))) (subst (λ n. HasDigits l.digits l.now (bits_of (8 * done) (number / 2 ^ (8 * n)))) (sym more) l.invariant.has));
    }

pub returns-clause-digits : goal.returns-clause-digits
returns-clause-digits c =
    let l = c.loop-left in
    let none : l.left ≡ 0 = omega (arith, c.loop-left-test.false) in
    let all : c.args.octets - 0 ≡ c.args.octets = omega arith in
    HasDigits-all l.digits l.now _ l.invariant.has ∙ ap (λ n. map digit_of (stuffed_from Recessive 1 (bits_of (8 * (c.args.octets - n)) (c.args.number / 2 ^ (8 * n))))) none
    ∙ ap (λ n. map digit_of (stuffed_from Recessive 1 (bits_of (8 * n) (c.args.number / 2 ^ (8 * 0))))) all
    ∙ ap (λ x. map digit_of (stuffed_from Recessive 1 (bits_of (8 * c.args.octets) x))) (let e : c.args.number / 2 ^ (8 * 0) ≡ c.args.number = omega arith in e)

pub returns-clause-bound : goal.returns-clause-bound
returns-clause-bound c =
    let l = c.loop-left in
    omega (arith, l.invariant.has.room, length-bits_of (8 * (c.args.octets - l.left)) (c.args.number / 2 ^ (8 * l.left)), c.requires)
