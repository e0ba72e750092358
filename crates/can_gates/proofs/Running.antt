-- A circuit whose gates are in order is kept by its run, and by no other assignment of the same inputs.
use Rattle.std.proofs.Common.{◌≡◌, ℕ, ◌<◌, ◌≤◌, ◌⊎◌, inl, inr, Bool, false, not, ◌&&◌, cond, eqb, List, [], ◌∷◌, refl, sym, ◌∙◌, ap, arith}
use Rattle.std.proofs.lemmas.Bool.{cases_eq, ne_eqb, eq-eqb}
use Rattle.can_gates.specs.declared.literal.Literal.{Literal}
use Rattle.can_gates.specs.declared.circuit.Gate.{Gate}
use Rattle.can_gates.specs.Circuit.{value, KeepsGates}
use Rattle.can_gates.specs.Runs.{run}
use Rattle.can_gates.specs.Ordered.{IsOrdered}

value-alike : (v w : ℕ → Bool) (l : Literal) → v l.signal ≡ w l.signal → value v l ≡ value w l
unfolding value
value-alike v w l alike = ap (λ b. cond l.negated (not b) b) alike

-- what keeps a circuit keeps it with other values above its signals
keeps-alike : (n highest : ℕ) (v w : ℕ → Bool) (gates : List Gate) → IsOrdered n highest gates → ((s : ℕ) → s ≤ highest → v s ≡ w s) → KeepsGates w gates → KeepsGates v gates
keeps-alike n highest v w [] ordered alike keeps = alike 0 (omega arith) ∙ keeps
keeps-alike n highest v w (g ∷ gates) ordered alike keeps = (
  alike g.signal (omega (arith, ordered.0)) ∙ keeps.0
      ∙ rw (value-alike v w g.left (alike g.left.signal (omega (arith, ordered.0, ordered.1)))) (rw (value-alike v w g.right (alike g.right.signal (omega (arith, ordered.0, ordered.2)))) refl),
  keeps-alike n ordered.3 v w gates ordered.5 (λ s h. alike s (omega (arith, h, ordered.0, ordered.4))) keeps.1,
)

-- below its own signal a gate changes nothing
below : (g : Gate) (x : Bool) (w : ℕ → Bool) (s : ℕ) → s < g.signal → cond (eqb s g.signal) x (w s) ≡ w s
below g x w s h = rw (ne_eqb s g.signal (λ e. absurd (omega (arith, h, e)))) refl

own : (n : ℕ) (x y : Bool) → cond (eqb n n) x y ≡ x
own n x y = rw (eq-eqb n n refl) refl

pub run-keeps : (n highest : ℕ) (gates : List Gate) (inputs : ℕ → Bool) → IsOrdered n highest gates → inputs 0 ≡ false → KeepsGates (run gates inputs) gates
run-keeps n highest [] inputs ordered zero_is = zero_is
run-keeps n highest (g ∷ gates) inputs ordered zero_is =
    let w : ℕ → Bool = run gates inputs in
    let x : Bool = value w g.left && value w g.right in
    let v : ℕ → Bool = run (g ∷ gates) inputs in
    let same : (s : ℕ) → s < g.signal → v s ≡ w s = λ s h. below g x w s h in
    let left : value v g.left ≡ value w g.left = value-alike v w g.left (same g.left.signal ordered.1) in
    let right : value v g.right ≡ value w g.right = value-alike v w g.right (same g.right.signal ordered.2) in
    (own g.signal x (w g.signal) ∙ rw left (rw right refl), keeps-alike n ordered.3 v w gates ordered.5 (λ s h. same s (omega (arith, h, ordered.4))) (run-keeps n ordered.3 gates inputs ordered.5 zero_is))

-- the inputs are below all gates
inputs-le : (n highest : ℕ) (gates : List Gate) → IsOrdered n highest gates → n ≤ highest
inputs-le n highest [] ordered = omega (arith, ordered)
inputs-le n highest (g ∷ gates) ordered = omega (arith, inputs-le n ordered.3 gates ordered.5, ordered.0, ordered.4)

-- an input is as it was
pub run-inputs : (n highest : ℕ) (gates : List Gate) (inputs : ℕ → Bool) (s : ℕ) → IsOrdered n highest gates → s ≤ n → run gates inputs s ≡ inputs s
run-inputs n highest [] inputs s ordered few = refl
run-inputs n highest (g ∷ gates) inputs s ordered few =
    let lower : s < g.signal = omega (arith, few, inputs-le n ordered.3 gates ordered.5, ordered.4) in
    below g (value (run gates inputs) g.left && value (run gates inputs) g.right) (run gates inputs) s lower ∙ run-inputs n ordered.3 gates inputs s ordered.5 few

same_place : (v w : ℕ → Bool) (g : Gate) → ((s : ℕ) → w s ≡ v s) → v g.signal ≡ (value v g.left && value v g.right) → (s : ℕ) → cond (eqb s g.signal) (value w g.left && value w g.right) (w s) ≡ v s
same_place v w g same kept s = by (cases_eq s g.signal)
  where
    by : (s ≡ g.signal) ⊎ (s ≡ g.signal → ⊥) → cond (eqb s g.signal) (value w g.left && value w g.right) (w s) ≡ v s
    by (inl e) = rw (eq-eqb s g.signal e) (rw (value-alike w v g.left (same g.left.signal)) (rw (value-alike w v g.right (same g.right.signal)) (sym kept ∙ ap v (sym e))))
    by (inr h) = rw (ne_eqb s g.signal h) (same s)

-- what keeps a circuit is the run of its own values
pub kept-run : (v : ℕ → Bool) (gates : List Gate) → KeepsGates v gates → (s : ℕ) → run gates v s ≡ v s
kept-run v [] keeps s = refl
kept-run v (g ∷ gates) keeps s = same_place v (run gates v) g (kept-run v gates keeps.1) keeps.0 s
