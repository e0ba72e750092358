use Rattle.std.proofs.Common.{◌≡◌, ◌≤◌, ◌<◌, ◌-◌, ◌∙◌, ℕ, arith, length, set, subst, sym, rules}
use Rattle.std.proofs.lemmas.List.{length-set}
use Rattle.can_node.specs.Tournament.{IsPlayedAt}
use Rattle.can_node.proofs.TournamentLemmas.{restarted}
use Rattle.can_node.proofs.queue.winners.Winners.restart.Goals as goal

pub loop-node-init : goal.loop-node-init
loop-node-init c =
    let width : length c.resize.new.self.items ≡ c.args.width = (search rules) in
    record {
      played = λ n l w. absurd (omega (arith, l, w, width));
      width = width;
      within = omega arith;
      capacity = c.resize.ensures.capacity;
    }

pub loop-node-preserved : goal.loop-node-preserved
loop-node-preserved c =
    let now = c.loop-node in
    let winners = now.self.entrants.items in
    let node = now.node - 1 in
    let same = length-set winners node c.below.result in
    record {
      played = subst (λ winner. (n : ℕ) → node ≤ n → n < length (set winners node winner) → IsPlayedAt (set winners node winner) c.args.slots.now n) (sym c.below.ensures)
          (restarted winners c.args.slots.now node (omega (arith, c.loop-node-test.true)) (omega (arith, now.invariant.within, now.invariant.width, c.loop-node-test.true))
          (λ n l w. now.invariant.played n (omega (arith, l, c.loop-node-test.true)) w));
      width = same ∙ now.invariant.width;
      within = omega (arith, now.invariant.within);
      capacity = now.invariant.capacity;
    }
