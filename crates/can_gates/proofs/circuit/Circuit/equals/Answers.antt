use Rattle.std.proofs.Common.{arith, length, max, add-one, refl, ◌≡◌, ◌∙◌, ◌++◌, ◌∷◌, []}
use Rattle.std.proofs.lemmas.List.{take_all}
use Rattle.can_gates.specs.Circuit.{always}
use Rattle.can_gates.proofs.Constants.{zero-kept, value-always}
use Rattle.can_gates.proofs.OrderPlaces.{equal_place}
use Rattle.can_gates.proofs.Lacks.{has_at, has_left, has_right, serves_none, serves_then}
use Rattle.can_gates.proofs.circuit.Circuit.equals.Goals as goal

pub loop-place-init : goal.loop-place-init
loop-place-init c = (serves_none c.args.self.now (c.args.a.now ++ c.args.b.now) (always ∷ []) (λ _. (omega arith, tt)), (refl, λ v keeps. (keeps, value-always v (zero-kept v c.args.self.now keeps))))

pub loop-place-preserved : goal.loop-place-preserved
loop-place-preserved c =
    let l = c.loop-place in
    let a = c.args.a.now in
    let b = c.args.b.now in
    let differ = c.xor-differ.result in
    let one = c.xor-differ.new.self in
    let two = c.and-equal.new.self in
    let first = serves_then c.args.self.now l.self one (a ++ b) (l.equal ∷ []) (c.literal_at-left.result ∷ c.literal_at-right.result ∷ []) (differ ∷ []) (differ ∷ l.equal ∷ []) l.invariant.0
    (λ has made. (rw c.literal_at-left.ensures (has_at l.self a l.place (has_left l.self a b has)), (rw c.literal_at-right.ensures (has_at l.self b l.place (has_right l.self a b has)), tt)))
    c.xor-differ.ensures.serves
    (λ has made new. (new.0, (made.0, tt))) in
    let second = serves_then c.args.self.now one two (a ++ b) (differ ∷ l.equal ∷ []) (c.opposite.result ∷ l.equal ∷ []) (c.and-equal.result ∷ []) (c.and-equal.result ∷ []) first (λ has made. (rw c.opposite.ensures.signal made.0, (made.1.0, tt))) c.and-equal.ensures.serves (λ has made new. new) in (
      second,
      (
        c.and-equal.ensures.made.0 ∙ c.xor-differ.ensures.made.0 ∙ l.invariant.1.0,
        λ v keeps.
            let equal = c.and-equal.ensures.made.1 v keeps in
            let differs = c.xor-differ.ensures.made.1 v equal.0 in
            let before = l.invariant.1.1 v differs.0 in
            let zero_is = zero-kept v c.args.self.now before.0 in (
              before.0,
              rw (add-one l.place)
                  (equal_place v zero_is a b c.literal_at-left.result c.literal_at-right.result c.xor-differ.result l.equal c.and-equal.result l.place c.literal_at-left.ensures c.literal_at-right.ensures differs.1 (rw (c.opposite.ensures.value v) at equal.1) before.1),
            ),
      ),
    )

pub returns-clause-made : goal.returns-clause-made
returns-clause-made c =
    let l = c.loop-place in
    let a = c.args.a.now in
    let b = c.args.b.now in
    let e : l.place ≡ max (length a) (length b) = omega (arith, c.loop-place-test.false, l.auto.place-end, c.max-places.ensures) in (
      l.invariant.1.0,
      λ v keeps.
          let whole = l.invariant.1.1 v keeps in
          (whole.0, rw (take_all l.place b (omega (arith, e))) at (rw (take_all l.place a (omega (arith, e))) at whole.1)),
    )

pub returns-clause-serves : goal.returns-clause-serves
returns-clause-serves c = c.loop-place.invariant.0
