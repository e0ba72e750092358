use Rattle.std.proofs.Common.{◌≡◌, None, take}
use Rattle.can_c.specs.PlainInputs.{hits_of_plain, hits_refusal}
use Rattle.can_c.proofs.inputs.read_hits.Given as goal

abbrev pub invariant-loop-place : goal.invariant-loop-place
invariant-loop-place l = record {
  hits : l.hits.items ≡ hits_of_plain (take l.place l.plain);
  none : hits_refusal (take l.place l.plain) ≡ None;
}
