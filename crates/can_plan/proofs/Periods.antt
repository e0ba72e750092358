-- Whether each message has a period, as a test.
use Rattle.std.specs.Prelude.{nat_lt, ◌&&◌}
use Rattle.std.specs.List.{list_all}
use Rattle.std.proofs.Common.{◌≡◌, ℕ, zero, suc, ◌<◌, Bool, true, false, None, Some, List, [], ◌∷◌, length, take, refl, ◌∙◌, ap, subst, arith}
use Rattle.std.proofs.lemmas.Bool.{and_parts, lt-ltb, ltb-true}
use Rattle.can_plan.specs.declared.message.Message.{Message}
use Rattle.can_plan.specs.Messages.{ArePeriodic}

abbrev pub all_have : List Message → Bool
all_have messages = list_all (λ (m : Message). nat_lt 0 m.period) messages

pub periodic-from : (ms : List Message) → all_have ms ≡ true → ArePeriodic ms
periodic-from [] e n m at = absurd (let h : None ≡ Some m = at in cc)
periodic-from (x ∷ ms) e zero m at =
    let one : x ≡ m = (let h : Some x ≡ Some m = at in cc) in
    subst (λ (k : Message). 0 < k.period) one (ltb-true 0 x.period (and_parts (nat_lt 0 x.period) (all_have ms) e).0)
periodic-from (x ∷ ms) e (suc n) m at = periodic-from ms (and_parts (nat_lt 0 x.period) (all_have ms) e).1 n m at

pub periodic-to : (ms : List Message) → ArePeriodic ms → all_have ms ≡ true
periodic-to [] each = refl
periodic-to (x ∷ ms) each = ap (λ b. b && all_have ms) (lt-ltb 0 x.period (each 0 x refl)) ∙ periodic-to ms (λ n m at. each (suc n) m at)

-- the front of such a list
pub periodic-take : (count : ℕ) (ms : List Message) → ArePeriodic ms → ArePeriodic (take count ms)
periodic-take zero [] each n m at = each n m at
periodic-take zero (x ∷ ms) each n m at = absurd (let h : None ≡ Some m = at in cc)
periodic-take (suc count) [] each n m at = each n m at
periodic-take (suc count) (x ∷ ms) each zero m at = each zero m at
periodic-take (suc count) (x ∷ ms) each (suc n) m at = periodic-take count ms (λ k l there. each (suc k) l there) n m at

-- if a message has none, there is one
pub some-message : (ms : List Message) → all_have ms ≡ false → 0 < length ms
some-message [] e = absurd (let h : true ≡ false = e in cc)
some-message (x ∷ ms) e = omega arith
