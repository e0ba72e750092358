-- Releases of messages, one message after another, keep to them.
use Rattle.std.proofs.Common.{◌≡◌, ◌≢◌, ℕ, suc, ◌+◌, ◌<◌, ◌≤◌, Some, List, [], ◌∷◌, ◌++◌, refl, sym, ◌∙◌, ap, subst, inl, inr, arith}
use Rattle.std.specs.Prelude.{slice_get}
use Rattle.std.specs.List.{flat_map}
use Rattle.std.proofs.lemmas.Bool.{cases_order}
use Rattle.can_frame.specs.Arbitration.{Before}
use Rattle.can_frame.proofs.BeforeLemmas.{Before-differs}
use Rattle.can_bus.proofs.Members.{stands-none, stands-here, stands-later, stands-cases, stands-front, stands-back, stands-either}
use Rattle.document_values.specs.Values.{ArePaired}
use Rattle.can_plan.specs.declared.message.Message.{Message}
use Rattle.can_plan.specs.Messages.{IsIn, IsMessageSet, IsOf, IsWithin, KeepTo, Release}
use Rattle.can_plan_text.proofs.Pairs.{at-either}

-- ---- messages of different fields

abbrev pub AreDistinct : List Message → Type 0
AreDistinct [] = Unit {0}
AreDistinct (m ∷ ms) = ((n : Message) → IsIn ms n → m.field ≢ n.field) × AreDistinct ms

abbrev pub Ascend : List Message → Type 0
Ascend messages = (i j : ℕ) (a b : Message) → i < j → slice_get messages i ≡ Some a → slice_get messages j ≡ Some b → Before a.field b.field

-- the first of ascending messages, and some of those after it
pub distinct-front : (xs ys zs : List Message) → Ascend (xs ++ ys) → ((z : Message) → IsIn zs z → IsIn ys z) → AreDistinct zs → AreDistinct (xs ++ zs)
distinct-front [] ys zs ascend among distinct = distinct
distinct-front (x ∷ xs) ys zs ascend among distinct = (
  λ n s.
      let there : IsIn (xs ++ ys) n = elim (stands-either xs zs n s) [ inl front ↦ stands-front xs ys n front | inr back ↦ stands-back xs ys n (among n back) ] in
      Before-differs x.field n.field (ascend 0 (suc there.0) x n (omega arith) refl there.1),
  distinct-front xs ys zs (λ i j a b less at_a at_b. ascend (suc i) (suc j) a b (omega (arith, less)) at_a at_b) among distinct,
)

module _ (messages : List Message) (set : IsMessageSet messages) where
  one-message : (a b : Message) → IsIn messages a → IsIn messages b → a.field ≡ b.field → a ≡ b
  one-message a b s t e = elim (cases_order s.0 t.0) [
    | inl same ↦ (let at : Some a ≡ Some b = sym s.1 ∙ ap (slice_get messages) same ∙ t.1 in cc)
    | inr other ↦ elim other [
      | inl less ↦ absurd (Before-differs a.field b.field (set.ascending s.0 t.0 a b less s.1 t.1) e)
      | inr more ↦ absurd (Before-differs b.field a.field (set.ascending t.0 s.0 b a more t.1 s.1) (sym e))
    ]
  ]

-- ---- releases of one message

pub record IsRun (m : Message) (rs : List Release) : Type 0 where
  pub its : (r : Release) → IsIn rs r → IsOf m r
  pub within : (r : Release) → IsIn rs r → IsWithin m r
  pub apart : (i j : ℕ) (a b : Release) → i < j → slice_get rs i ≡ Some a → slice_get rs j ≡ Some b → a.released + m.period ≤ b.released

-- ---- of several messages, one after another

pub record AreRuns (ms : List Message) (rs : List Release) : Type 0 where
  pub known : (r : Release) → IsIn rs r → (m : Message) × IsIn ms m × IsOf m r × IsWithin m r
  pub apart : (i j : ℕ) (a b : Release) (m : Message) → i < j → slice_get rs i ≡ Some a → slice_get rs j ≡ Some b → IsIn ms m → IsOf m a → IsOf m b → a.released + m.period ≤ b.released

none-runs : AreRuns [] []
none-runs = record { known = λ r s. absurd (stands-none r s); apart = λ i j a b m less at_a at_b there of_a of_b. absurd (stands-none m there) }

module _ (m : Message) (ms : List Message) (rs others : List Release) (run : IsRun m rs) (rest : AreRuns ms others) (differs : (n : Message) → IsIn ms n → m.field ≢ n.field) where
  -- a release of m is not one of the others
  not-other : (r : Release) → IsIn others r → IsOf m r → ⊥
  not-other r s of = let k = rest.known r s in differs k.0 k.1 (sym of ∙ k.2)

  -- one of the others is not one of m
  not-own : (r : Release) (n : Message) → IsIn rs r → IsIn ms n → IsOf n r → ⊥
  not-own r n s there of = differs n there (sym (run.its r s) ∙ of)

  own : (i j : ℕ) (a b : Release) → i < j → slice_get (rs ++ others) i ≡ Some a → slice_get (rs ++ others) j ≡ Some b → IsOf m a → IsOf m b → a.released + m.period ≤ b.released
  own i j a b less at_a at_b of_a of_b = elim (at-either rs others i a at_a) [
    | inl early ↦ elim (at-either rs others j b at_b) [
      | inl soon ↦ run.apart i j a b less early.1 soon.1
      | inr late ↦ absurd (not-other b (late.0, late.2) of_b)
    ]
    | inr late ↦ absurd (not-other a (late.0, late.2) of_a)
  ]

  other : (i j : ℕ) (a b : Release) (n : Message) → i < j → slice_get (rs ++ others) i ≡ Some a → slice_get (rs ++ others) j ≡ Some b → IsIn ms n → IsOf n a → IsOf n b → a.released + n.period ≤ b.released
  other i j a b n less at_a at_b there of_a of_b = elim (at-either rs others i a at_a) [
    | inl early ↦ absurd (not-own a n (i, early.1) there of_a)
    | inr late ↦ elim (at-either rs others j b at_b) [
      | inl soon ↦ absurd (not-own b n (j, soon.1) there of_b)
      | inr behind ↦ rest.apart late.0 behind.0 a b n (omega (arith, less, late.1, behind.1)) late.2 behind.2 there of_a of_b
    ]
  ]

  runs-cons : AreRuns (m ∷ ms) (rs ++ others)
  runs-cons = record {
    known = λ r s. elim (stands-either rs others r s) [
      | inl here ↦ (m, stands-here m ms, run.its r here, run.within r here)
      | inr there ↦ (let k = rest.known r there in (k.0, stands-later m ms k.0 k.1, k.2, k.3))
    ];
    apart = λ i j a b n less at_a at_b there of_a of_b. elim (stands-cases m ms n there) [
      | inl e ↦ subst (λ (k : Message). a.released + k.period ≤ b.released) e (own i j a b less at_a at_b (of_a ∙ ap (λ (k : Message). k.field) (sym e)) (of_b ∙ ap (λ (k : Message). k.field) (sym e)))
      | inr later ↦ other i j a b n less at_a at_b later of_a of_b
    ];
  }

pub runs-all : (ms : List Message) (runs : List (List Release)) → ArePaired IsRun ms runs → AreDistinct ms → AreRuns ms (flat_map (λ (rs : List Release). rs) runs)
runs-all [] [] paired distinct = none-runs
runs-all [] (rs ∷ runs) paired distinct = absurd paired
runs-all (m ∷ ms) [] paired distinct = absurd paired
runs-all (m ∷ ms) (rs ∷ runs) paired distinct =
    runs-cons m ms rs (flat_map (λ (r : List Release). r) runs) paired.0 (runs-all ms runs paired.1 distinct.1) distinct.0

pub keep-to : (messages : List Message) → IsMessageSet messages → (ms : List Message) (rs : List Release) → AreRuns ms rs → ((m : Message) → IsIn ms m → IsIn messages m) → KeepTo messages rs
keep-to messages set ms rs runs among = record {
  known = λ r s. let k = runs.known r s in (k.0, among k.0 k.1, k.2);
  within = λ r m s there of.
      let k = runs.known r s in
      subst (λ (n : Message). IsWithin n r) (one-message messages set k.0 m (among k.0 k.1) there (sym k.2 ∙ of)) k.3;
  apart = λ i j a b m less at_a at_b there of_a of_b.
      let k = runs.known a (i, at_a) in
      let same : k.0 ≡ m = one-message messages set k.0 m (among k.0 k.1) there (sym k.2 ∙ of_a) in
      runs.apart i j a b m less at_a at_b (subst (λ (n : Message). IsIn ms n) same k.1) of_a of_b;
}
