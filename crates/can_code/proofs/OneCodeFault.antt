-- A list of levels has at most one fault.
use Rattle.std.proofs.Common.{◌≡◌, ℕ, List, refl, ◌∙◌, ap, subst, arith, inl, inr}
use Rattle.std.proofs.lemmas.Bool.{cases_order}
use Rattle.can_frame.specs.declared.level.Level.{Level}
use Rattle.can_code.specs.declared.fault.CodeFaultKind.{CodeFaultKind}
use Rattle.can_code.specs.declared.fault.CodeFaultKind.TheVariants.{Short, NoStartOfFrame, Stuff, Crc, Form}
use Rattle.can_code.specs.declared.fault.CodeFault.{CodeFault}
use Rattle.can_code.specs.CodeFaults.{IsLongestSound, HasKind, IsCodeFault}

-- only one sound front is the longest
one_place : (l : List Level) (p q : ℕ) → IsLongestSound l p → IsLongestSound l q → p ≡ q
one_place l p q s t = elim (cases_order p q) [
  | inl same ↦ same
  | inr (inl less) ↦ absurd (s.longest q less t.within t.sound)
  | inr (inr more) ↦ absurd (t.longest p more s.within s.sound)
]

-- only one kind fits at a place
one_kind : (l : List Level) (p : ℕ) (j k : CodeFaultKind) → HasKind l p j → HasKind l p k → j ≡ k
one_kind l p Short Short s t = refl
one_kind l p Short NoStartOfFrame s t = absurd (omega arith)
one_kind l p Short Crc s t = absurd (omega arith)
one_kind l p Short Stuff s t = absurd (omega arith)
one_kind l p Short Form s t = absurd (omega arith)
one_kind l p NoStartOfFrame Short s t = absurd (omega arith)
one_kind l p NoStartOfFrame NoStartOfFrame s t = refl
one_kind l p NoStartOfFrame Crc s t = absurd (omega arith)
one_kind l p NoStartOfFrame Stuff s t = absurd (omega arith)
one_kind l p NoStartOfFrame Form s t = absurd (omega arith)
one_kind l p Crc Short s t = absurd (omega arith)
one_kind l p Crc NoStartOfFrame s t = absurd (omega arith)
one_kind l p Crc Crc s t = refl
one_kind l p Crc Stuff s t = absurd (t.2 s.2)
one_kind l p Crc Form s t = absurd (t.2 s.2)
one_kind l p Stuff Short s t = absurd (omega arith)
one_kind l p Stuff NoStartOfFrame s t = absurd (omega arith)
one_kind l p Stuff Crc s t = absurd (s.2 t.2)
one_kind l p Stuff Stuff s t = refl
one_kind l p Stuff Form s t = absurd (s.3 t.3)
one_kind l p Form Short s t = absurd (omega arith)
one_kind l p Form NoStartOfFrame s t = absurd (omega arith)
one_kind l p Form Crc s t = absurd (s.2 t.2)
one_kind l p Form Stuff s t = absurd (t.3 s.3)
one_kind l p Form Form s t = refl

pub IsCodeFault-one : (l : List Level) (f g : CodeFault) → IsCodeFault l f → IsCodeFault l g → f ≡ g
IsCodeFault-one l f g s t =
    let place = one_place l f.place g.place s.place t.place in
    let kind = one_kind l g.place f.kind g.kind (subst (λ p. HasKind l p f.kind) place s.kind) t.kind in
    ap (λ k. record { kind = k; place = f.place }) kind ∙ ap (λ p. record { kind = g.kind; place = p }) place
