use Rattle.std.proofs.Common.{◌<◌, ◌/◌, ◌∙◌, arith, refl, length, set, subst, sym}
use Rattle.std.specs.Prelude.{None}
use Rattle.std.proofs.lemmas.List.{get_or_read, length-set}
use Rattle.can_node.specs.Tournament.{IsPlayedBut}
use Rattle.can_node.proofs.TournamentLemmas.{replayed, settled}
use Rattle.can_node.proofs.queue.winners.Winners.replay.Goals as goal

pub loop-node-preserved : goal.loop-node-preserved
loop-node-preserved c =
    let now = c.loop-node in
    let winners = now.self.entrants.items in
    let node = now.node / 2 in
    let same = length-set winners node c.below-winner.result in
    record {
      played = subst (λ winner. IsPlayedBut node (set winners node winner) c.args.slots.now) (sym c.below-winner.ensures)
          (replayed winners c.args.slots.now node (omega (arith, c.loop-node-test.true)) (omega (arith, now.invariant.within)) now.node refl now.invariant.played);
      within = omega (arith, same, now.invariant.within);
      width = same ∙ now.invariant.width;
      capacity = now.invariant.capacity;
    }

pub returns-then-is_same-clause-played : goal.returns-then-is_same-clause-played
returns-then-is_same-clause-played c =
    let now = c.loop-node in
    let winners = now.self.entrants.items in
    let node = now.node / 2 in
    let inner : node < length winners = omega (arith, now.invariant.within) in
    settled winners c.args.slots.now node inner now.node refl
    (sym c.below-winner.ensures ∙ c.is_same.ensures c.if-is_same.true ∙ get_or_read winners node c.index.result.now inner c.index.ensures None) now.invariant.played
