-- The order of hits.
use Rattle.std.proofs.Common.{◌≡◌, ℕ, true, false, List, refl, arith}
use Rattle.std.proofs.lemmas.Bool.Decides.{nat_tests}
use Rattle.can_terms.specs.declared.hit.Hit.{Hit}
use Rattle.can_terms.specs.declared.hit.Hit.TheVariants.{At, In, View}
use Rattle.can_terms.specs.Hits.{is_pair_above, is_above, AreTaken}
use Rattle.can_bus.specs.Walks.{is_hit, HitsRise}
use Rattle.can_bus.proofs.CheckLemmas.{follows-each}

pair_transitive : (a b c d e f : ℕ) → is_pair_above a b c d ≡ true → is_pair_above c d e f ≡ true → is_pair_above a b e f ≡ true
pair_transitive a b c d e f h k = grind (arith, nat_tests)

-- what is above a hit is above all below it
pub above-transitive : (a b c : Hit) → is_above a b ≡ true → is_above b c ≡ true → is_above a c ≡ true
above-transitive (At s) (At t) (At u) h k = grind (arith, nat_tests)
above-transitive (At s) (At t) (In n o) h k = k
above-transitive (At s) (At t) (View u p) h k = k
above-transitive (At s) (In n o) c h k = absurd (let e : false ≡ true = h in cc)
above-transitive (At s) (View u p) c h k = absurd (let e : false ≡ true = h in cc)
above-transitive (In n o) b (At u) h k = refl
above-transitive (In n o) (At t) (In m r) h k = absurd (let e : false ≡ true = k in cc)
above-transitive (In n o) (At t) (View u p) h k = absurd (let e : false ≡ true = k in cc)
above-transitive (In n o) (In m r) (In l q) h k = pair_transitive n o m r l q h k
above-transitive (In n o) (In m r) (View u p) h k = k
above-transitive (In n o) (View t p) c h k = absurd (let e : false ≡ true = h in cc)
above-transitive (View t p) b (At u) h k = refl
above-transitive (View t p) b (In n o) h k = refl
above-transitive (View t p) (At s) (View u q) h k = absurd (let e : false ≡ true = k in cc)
above-transitive (View t p) (In n o) (View u q) h k = absurd (let e : false ≡ true = k in cc)
above-transitive (View t p) (View s r) (View u q) h k = pair_transitive t p s r u q h k

-- a hit that is above another isn't that one
pub above-other : (a b : Hit) → is_above a b ≡ true → is_hit a b ≡ false
above-other (At s) (At t) h = grind (arith, nat_tests)
above-other (At s) (In m r) h = refl
above-other (At s) (View u p) h = refl
above-other (In n o) (At t) h = refl
above-other (In n o) (In m r) h = grind (arith, nat_tests)
above-other (In n o) (View u p) h = refl
above-other (View t p) (At u) h = refl
above-other (View t p) (In m r) h = refl
above-other (View t p) (View u q) h = grind (arith, nat_tests)

-- hits that are taken rise
pub taken-rising : (ports : ℕ) (hits : List Hit) → AreTaken ports hits → HitsRise hits
taken-rising ports hits taken = follows-each is_above above-transitive hits (λ place hit there. (taken place hit there).0)
