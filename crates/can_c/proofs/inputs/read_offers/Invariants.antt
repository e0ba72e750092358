use Rattle.std.proofs.Common.{◌≡◌, None, take}
use Rattle.can_c.specs.PlainInputs.{offers_of_plain, offers_refusal}
use Rattle.can_c.proofs.inputs.read_offers.Given as goal

abbrev pub invariant-loop-place : goal.invariant-loop-place
invariant-loop-place l = record {
  offers : l.offers.items ≡ offers_of_plain (take l.place l.plain);
  none : offers_refusal (take l.place l.plain) ≡ None;
}
