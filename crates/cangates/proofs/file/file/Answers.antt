use Rattle.std.proofs.Common.{length, refl, ◌∙◌, ap, arith}
use Rattle.cangates.proofs.file.file.Goals as goal

pub text-requires : goal.text-requires
text-requires c = let ports = c.in_ok-design.ensures.ports in omega (arith, ports.inputs, ports.registers, ap length c.deref.ensures.value)

pub returns : goal.returns
returns c =
    let made = c.in_ok-design.ensures in
    record {
      names = c.names-chosen.result;
      design = c.in_ok-design.design;
      complete = made.complete;
      zero = made.zero;
      starts = made.starts;
      resets = made.resets;
      steps = made.steps;
      runs = made.runs;
      ports = made.ports;
      named = c.names-chosen.ensures.named c.in_ok-design.design;
      readable = c.names-chosen.ensures.readable;
      is = c.in_ok-made.ensures ∙ rw (c.deref.ensures.value, c.deref-2.ensures.value) refl;
    }
