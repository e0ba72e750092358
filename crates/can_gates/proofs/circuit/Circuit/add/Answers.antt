use Rattle.std.proofs.Common.{arith, set, take, get_or, suc, length, add-one, refl, ◌≡◌, ◌<◌, ◌∙◌, ◌++◌, ◌∷◌, [], replicate}
use Rattle.std.proofs.lemmas.List.{take_all, length-replicate, length-set}
use Rattle.can_gates.specs.Circuit.{value, never}
use Rattle.can_gates.specs.Words.{bit}
use Rattle.can_gates.proofs.Constants.{zero-kept}
use Rattle.can_gates.proofs.WordPlaces.{set_place, taken}
use Rattle.can_gates.proofs.SumPlaces.{sum_place}
use Rattle.can_gates.proofs.Lacks.{has_at, has_left, has_none, has_right, has_set, serves_none, serves_then}
use Rattle.can_gates.proofs.circuit.Circuit.add.Goals as goal

pub loop-place-init : goal.loop-place-init
loop-place-init g c = (serves_none c.args.self.now (c.args.carry.now ∷ (c.args.a.now ++ c.args.b.now)) (c.args.carry.now ∷ replicate g.row.N never) (λ has. (has.0, has_none c.args.self.now g.row.N)), (length-replicate g.row.N never, (refl, λ v keeps. (keeps, omega arith))))

pub loop-place-preserved : goal.loop-place-preserved
loop-place-preserved g c =
    let l = c.loop-place in
    let a = c.args.a.now in
    let b = c.args.b.now in
    let given = c.args.carry.now ∷ (a ++ b) in
    let x = get_or a l.place never in
    let one = c.xor-differ.new.self in
    let two = c.xor.new.self in
    let three = c.ite-over.new.self in
    let differ = c.xor-differ.result in
    let first = serves_then c.args.self.now l.self one given (l.over ∷ l.word) (x ∷ c.literal_at.result ∷ []) (differ ∷ []) (x ∷ differ ∷ l.over ∷ l.word) l.invariant.0
    (λ has made. (has_at l.self a l.place (has_left l.self a b has.1), (rw c.literal_at.ensures (has_at l.self b l.place (has_right l.self a b has.1)), tt)))
    c.xor-differ.ensures.serves
    (λ has made new. (has_at one a l.place (has_left one a b has.1), (new.0, made))) in
    let second = serves_then c.args.self.now one two given (x ∷ differ ∷ l.over ∷ l.word) (differ ∷ l.over ∷ []) (c.xor.result ∷ []) (x ∷ differ ∷ l.over ∷ set l.word l.place c.xor.result) first
    (λ has made. (made.1.0, (made.1.1.0, tt)))
    c.xor.ensures.serves
    (λ has made new. (made.0, (made.1.0, (made.1.1.0, has_set two l.word l.place c.xor.result made.1.1.1 new.0)))) in
    let third = serves_then c.args.self.now two three given (x ∷ differ ∷ l.over ∷ set l.word l.place c.xor.result) (differ ∷ l.over ∷ x ∷ []) (c.ite-over.result ∷ []) (c.ite-over.result ∷ set l.word l.place c.xor.result) second
    (λ has made. (made.1.0, (made.1.1.0, (made.0, tt))))
    c.ite-over.ensures.serves
    (λ has made new. (new.0, made.1.1.1)) in
    let within : l.place < length l.word = omega (arith, c.loop-place-test.true, l.auto.place-end, l.invariant.1.0) in (
      third,
      (
        length-set l.word l.place c.xor.result ∙ l.invariant.1.0,
        (
          c.ite-over.ensures.made.0 ∙ c.xor.ensures.made.0 ∙ c.xor-differ.ensures.made.0 ∙ l.invariant.1.1.0,
          λ v keeps.
              let carry = c.ite-over.ensures.made.1 v keeps in
              let level = c.xor.ensures.made.1 v carry.0 in
              let differs = c.xor-differ.ensures.made.1 v level.0 in
              let before = l.invariant.1.1.1 v differs.0 in
              let zero_is = zero-kept v c.args.self.now before.0 in (
                before.0,
                rw (add-one l.place)
                    (sum_place v zero_is a c.args.b.now (take l.place l.word) (take (suc l.place) (set l.word l.place c.xor.result)) (get_or a l.place never) c.literal_at.result c.xor-differ.result c.xor.result l.over c.ite-over.result l.place (bit (value v c.args.carry.now))
                    (set_place l.word l.place c.xor.result within) (taken l.word l.place within) refl c.literal_at.ensures differs.1 level.1 carry.1 before.1),
              ),
        ),
      ),
    )

pub returns-clause-places : goal.returns-clause-places
returns-clause-places g c = c.loop-place.invariant.1.0

pub returns-clause-sum : goal.returns-clause-sum
returns-clause-sum g c =
    let l = c.loop-place in
    let e : l.place ≡ g.row.N = omega (arith, c.loop-place-test.false, l.auto.place-end) in (
      l.invariant.1.1.0,
      λ v keeps.
          let whole = l.invariant.1.1.1 v keeps in
          (whole.0, rw e at (rw (take_all l.place l.word (omega (arith, e, l.invariant.1.0)), take_all l.place c.args.a.now (omega (arith, e, c.told-a))) at whole.1)),
    )

pub returns-clause-serves : goal.returns-clause-serves
returns-clause-serves g c = c.loop-place.invariant.0
