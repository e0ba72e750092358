use Rattle.std.proofs.Common.{◌+◌, ◌<◌, sym, ◌∙◌, ap, arith, below_more}
use Rattle.std.specs.Prelude.{bit_xor}
use Rattle.std.proofs.lemmas.Nat.{xor_lt}
use Rattle.can_frame.proofs.LevelLemmas.{length-bits_of}
use Rattle.can_frame.specs.Levels.{bits_of}
use Rattle.can_wire.specs.Crc.{xor}
use Rattle.can_wire.proofs.LevelLemmas.{bits_of-xor}
use Rattle.can_longest.proofs.Chosen.{Leads, not_leading, one_leads}
use Rattle.can_longest.proofs.wires.LongestWires.longest_octet.Goals as goal

pub most-requires-in-loop-octet-clause-range : goal.most-requires-in-loop-octet-clause-range
most-requires-in-loop-octet-clause-range c = xor_lt 15 c.args.begun.check c.added.result c.requires.range c.added.ensures.range

pub returns-then-next-from-clause-check : goal.returns-then-next-from-clause-check
returns-then-next-from-clause-check c = bits_of-xor 15 c.args.begun.check c.added.result ∙ ap (xor (bits_of 15 c.args.begun.check)) c.added.ensures.sum

pub returns-then-next-from-clause-range : goal.returns-then-next-from-clause-range
returns-then-next-from-clause-range c = xor_lt 15 c.args.begun.check c.added.result c.requires.range c.added.ensures.range

pub unreachable-requires : goal.unreachable-requires
unreachable-requires c =
    let b = c.args.begun in
    let r = one_leads c.args.left b.heard.last b.heard.run (bits_of 15 b.check) (length-bits_of 15 b.check) in
    let before : r.0 < c.loop-octet.octet = omega (arith, r.1, c.loop-octet-test.false) in
    c.loop-octet.invariant r.0 before r.2

pub loop-octet-preserved : goal.loop-octet-preserved
loop-octet-preserved c =
    let b = c.args.begun in
    let check = bits_of 15 b.check in
    let heard = c.hear_bits.result in
    let next = bit_xor b.check c.added.result in
    let next_is = bits_of-xor 15 b.check c.added.result ∙ ap (xor check) c.added.ensures.sum in
    below_more (λ x. Leads c.args.left b.heard.last b.heard.run check x → ⊥) c.loop-octet.octet c.loop-octet.invariant
    (not_leading c.args.left b.heard.last b.heard.run check (length-bits_of 15 b.check) c.loop-octet.octet b.heard.levels heard.levels heard.last heard.run (bits_of 15 next)
    c.hear_bits.ensures.behind next_is
    (λ e. c.if-next-from.false (ap (λ n. heard.levels + n) (c.from-in-loop-octet.ensures ∙ c.most-in-loop-octet.ensures) ∙ e ∙ sym (ap (λ n. b.heard.levels + n) (c.from.ensures ∙ c.most.ensures)))))
