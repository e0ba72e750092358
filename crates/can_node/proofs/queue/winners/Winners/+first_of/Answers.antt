use Rattle.std.proofs.Common.{◌≡◌, sym, ◌∙◌}
use Rattle.std.specs.Prelude.{Some, None}
use Rattle.std.specs.declared.cmp.Ordering.TheVariants.{Less, Equal, Greater}
use Rattle.can_frame.specs.Arbitration.{field_cmp}
use Rattle.can_node.specs.Tournament.{winner_at}
use Rattle.can_node.proofs.SearchLemmas.{none-wins, same-wins, higher-wins, lower-alone, first-of-two}
use Rattle.can_node.proofs.queue.winners.Winners.+first_of.Goals as goal

pub returns-in_err-winner : goal.returns-in_err-winner
returns-in_err-winner t c =
    let none : winner_at c.args.self.now.entrants.items c.args.slots.now c.args.node ≡ None = sym c.at.ensures ∙ c.in_err-winner.was in
    rw c.from_residual.ensures (none-wins c.args.self.now.entrants.items c.args.slots.now c.requires.played c.requires.slots c.args.field c.args.node c.requires.node none)

pub returns-in-Equal : goal.returns-in-Equal
returns-in-Equal t c =
    let e = c.in_ok-winner.winner in
    let won : winner_at c.args.self.now.entrants.items c.args.slots.now c.args.node ≡ Some e = sym c.at.ensures ∙ c.in_ok-winner.was in
    let order : field_cmp c.args.field e.field ≡ Equal = sym c.cmp.ensures.value ∙ c.in-Equal.is in
    same-wins c.args.self.now.entrants.items c.args.slots.now c.requires.played c.requires.slots c.args.field c.args.node c.requires.node e won order

pub returns-in-Greater : goal.returns-in-Greater
returns-in-Greater t c =
    let inner = c.if-node-width.true in
    rw c.lower.ensures (first-of-two c.args.self.now.entrants.items c.args.slots.now c.requires.played c.requires.slots c.args.field c.args.node c.requires.node (rw c.width.ensures at inner)
    c.first_of-left.result c.first_of-right.result c.first_of-left.ensures c.first_of-right.ensures)

pub returns-in_default : goal.returns-in_default
returns-in_default t c =
    let e = c.in_ok-winner.winner in
    let won : winner_at c.args.self.now.entrants.items c.args.slots.now c.args.node ≡ Some e = sym c.at.ensures ∙ c.in_ok-winner.was in
    let order : field_cmp c.args.field e.field ≡ Greater = sym c.cmp.ensures.value ∙ c.in-Greater.is in
    let past = c.if-node-width.false in
    lower-alone c.args.self.now.entrants.items c.args.slots.now c.requires.played c.requires.slots c.args.field c.args.node c.requires.node e (rw c.width.ensures at past) won order

pub returns-in_default-2 : goal.returns-in_default-2
returns-in_default-2 t c =
    let e = c.in_ok-winner.winner in
    let won : winner_at c.args.self.now.entrants.items c.args.slots.now c.args.node ≡ Some e = sym c.at.ensures ∙ c.in_ok-winner.was in
    let order : field_cmp c.args.field e.field ≡ Less = sym c.cmp.ensures.value ∙ c.in_default.is in
    higher-wins c.args.self.now.entrants.items c.args.slots.now c.requires.played c.requires.slots c.args.field c.args.node c.requires.node e won order
