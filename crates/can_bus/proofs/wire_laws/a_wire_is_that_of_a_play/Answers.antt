use Rattle.can_bus.proofs.WirePlays.{levels-recorded, play-levels, play-views, recorded-levels}
use Rattle.can_bus.proofs.wire_laws.a_wire_is_that_of_a_play.Goals as goal

pub returns : goal.returns
returns c = record {
  recorded = λ hits rest wired recorded rested. (recorded-levels hits rest wired recorded rested, levels-recorded hits rest wired recorded rested);
  levels = play-levels;
  views = play-views;
}
