use Rattle.std.proofs.Common.{◌≡◌, ◌-◌, ◌∙◌, suc, length, drop, arith, ◌++◌, ◌∷◌, [], take, get_or}
use Rattle.std.proofs.lemmas.List.{take_all, length-drop}
use Rattle.can_gates.specs.Circuit.{never}
use Rattle.can_gates.proofs.Constants.{zero-kept}
use Rattle.can_gates.proofs.Halves.{selected}
use Rattle.can_gates.proofs.Lacks.{has_at, has_both, has_drop, has_left, has_right, has_take, serves_none, serves_then}
use Rattle.can_gates.proofs.circuit.Circuit.+select.Goals as goal

pub returns-clause-made : goal.returns-clause-made
returns-clause-made t c =
    let items = c.args.items.now in
    let place = c.args.place.now in
    let half = c.power_within-half.result in
    let back = take_all (length items - half) (drop half items) (omega (arith, length-drop half items)) in
    let long : length place ≡ suc (length place - 1) = omega (arith, c.if-place-eq0.false) in (
      c.ite.ensures.made.0 ∙ c.select-high.ensures.made.0 ∙ c.select-low.ensures.made.0,
      λ v keeps.
          let made = c.ite.ensures.made.1 v keeps in
          let high = c.select-high.ensures.made.1 v made.0 in
          let low = c.select-low.ensures.made.1 v high.0 in
          (low.0, selected v (zero-kept v c.args.self.now low.0) items place (length place - 1) half c.ite.result c.select-low.result c.select-high.result long c.power_within-half.ensures made.1 low.1 (rw back at high.1)),
    )

pub returns-clause-serves : goal.returns-clause-serves
returns-clause-serves t c =
    let items = c.args.items.now in
    let place = c.args.place.now in
    let given = items ++ place in
    let half = c.power_within-half.result in
    let rest = take (length place - 1) place in
    let back = take_all (length items - half) (drop half items) (omega (arith, length-drop half items)) in
    let old = c.args.self.now in
    let one = c.select-low.new.self in
    let two = c.select-high.new.self in
    let three = c.ite.new.self in
    let low = c.select-low.result in
    let high = c.select-high.result in
    let test = get_or place (length place - 1) never in
    let first = serves_then old old one given [] (take half items ++ rest) (low ∷ []) (low ∷ []) (serves_none old given [] (λ _. tt)) (λ has made. has_both old (take half items) rest (has_take old half items (has_left old items place has)) (has_take old (length place - 1) place (has_right old items place has))) c.select-low.ensures.serves (λ has made new. new) in
    let second = serves_then old one two given (low ∷ []) (drop half items ++ rest) (high ∷ []) (high ∷ low ∷ []) first (λ has made. has_both one (drop half items) rest (has_drop one half items (has_left one items place has)) (has_take one (length place - 1) place (has_right one items place has))) (rw back at c.select-high.ensures.serves) (λ has made new. (new.0, made)) in
    serves_then old two three given (high ∷ low ∷ []) (test ∷ high ∷ low ∷ []) (c.ite.result ∷ []) (c.ite.result ∷ []) second (λ has made. (has_at two place (length place - 1) (has_right two items place has), made)) c.ite.ensures.serves (λ has made new. new)
