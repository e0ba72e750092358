use Rattle.std.proofs.Common.{arith, length, max, add-one, refl, ◌≡◌, ◌∙◌, ◌++◌, ◌∷◌, []}
use Rattle.std.proofs.lemmas.List.{take_all}
use Rattle.can_gates.specs.Circuit.{never}
use Rattle.can_gates.proofs.Constants.{zero-kept, value-never}
use Rattle.can_gates.proofs.OrderPlaces.{less_place}
use Rattle.can_gates.proofs.Lacks.{has_at, has_left, has_right, serves_none, serves_then}
use Rattle.can_gates.proofs.circuit.Circuit.less.Goals as goal

pub loop-place-init : goal.loop-place-init
loop-place-init c = (serves_none c.args.self.now (c.args.a.now ++ c.args.b.now) (never ∷ []) (λ _. (omega arith, tt)), (refl, λ v keeps. (keeps, value-never v (zero-kept v c.args.self.now keeps))))

pub loop-place-preserved : goal.loop-place-preserved
loop-place-preserved c =
    let l = c.loop-place in
    let a = c.args.a.now in
    let b = c.args.b.now in
    let differ = c.xor-differ.result in
    let right = c.literal_at-right.result in
    let one = c.xor-differ.new.self in
    let two = c.ite-less.new.self in
    let first = serves_then c.args.self.now l.self one (a ++ b) (l.less ∷ []) (c.literal_at-left.result ∷ right ∷ []) (differ ∷ []) (differ ∷ right ∷ l.less ∷ []) l.invariant.0
    (λ has made. (rw c.literal_at-left.ensures (has_at l.self a l.place (has_left l.self a b has)), (rw c.literal_at-right.ensures (has_at l.self b l.place (has_right l.self a b has)), tt)))
    c.xor-differ.ensures.serves
    (λ has made new. (new.0, (rw c.literal_at-right.ensures (has_at one b l.place (has_right one a b has)), (made.0, tt)))) in
    let second = serves_then c.args.self.now one two (a ++ b) (differ ∷ right ∷ l.less ∷ []) (differ ∷ right ∷ l.less ∷ []) (c.ite-less.result ∷ []) (c.ite-less.result ∷ []) first (λ has made. made) c.ite-less.ensures.serves (λ has made new. new) in (
      second,
      (
        c.ite-less.ensures.made.0 ∙ c.xor-differ.ensures.made.0 ∙ l.invariant.1.0,
        λ v keeps.
            let less = c.ite-less.ensures.made.1 v keeps in
            let differs = c.xor-differ.ensures.made.1 v less.0 in
            let before = l.invariant.1.1 v differs.0 in
            let zero_is = zero-kept v c.args.self.now before.0 in
            (before.0, rw (add-one l.place) (less_place v zero_is a b c.literal_at-left.result c.literal_at-right.result c.xor-differ.result l.less c.ite-less.result l.place c.literal_at-left.ensures c.literal_at-right.ensures differs.1 less.1 before.1)),
      ),
    )

pub returns-clause-made : goal.returns-clause-made
returns-clause-made c =
    let l = c.loop-place in
    let a = c.args.a.now in
    let b = c.args.b.now in
    let e : l.place ≡ max (length a) (length b) = omega (arith, c.loop-place-test.false, l.auto.place-end, c.max-places.ensures) in (
      l.invariant.1.0,
      λ v keeps.
          let whole = l.invariant.1.1 v keeps in
          (whole.0, rw (take_all l.place b (omega (arith, e))) at (rw (take_all l.place a (omega (arith, e))) at whole.1)),
    )

pub returns-clause-serves : goal.returns-clause-serves
returns-clause-serves c = c.loop-place.invariant.0
