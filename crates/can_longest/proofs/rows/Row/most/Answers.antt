use Rattle.std.proofs.Common.{◌∙◌, sym, arith}
use Rattle.can_frame.specs.Levels.{bits_of}
use Rattle.can_longest.proofs.Places.{entry_at}
use Rattle.can_longest.proofs.rows.Row.most.Goals as goal

pub index-requires : goal.index-requires
index-requires c = omega (arith, c.from.ensures, c.place-place.ensures.range, c.requires.full)

pub returns : goal.returns
returns c = λ k is.
    c.behind.ensures k (bits_of 15 c.place-place.result) (entry_at k c.args.self.now is c.from.result c.place-place.result c.from.ensures c.place-place.ensures.range c.index.result.now c.index.ensures)
    ∙ sym (c.place-place.ensures.same k c.args.heard.run is)
