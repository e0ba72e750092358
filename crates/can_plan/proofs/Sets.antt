-- A message set, as the message of a place ranks in it, and the releases that keep to it.
use Rattle.std.specs.Prelude.{slice_get}
use Rattle.std.proofs.Common.{◌≡◌, ℕ, suc, ◌+◌, ◌<◌, ◌≤◌, Some, List, [], ◌∷◌, ◌++◌, refl, sym, subst, inl, inr, arith}
use Rattle.can_frame.specs.Arbitration.{Before}
use Rattle.can_bus.proofs.Members.{stands-none, stands-here, stands-later, stands-cases, stands-middle, stands-either, stands-front, stands-back}
use Rattle.can_plan.specs.declared.message.Message.{Message}
use Rattle.can_plan.specs.Messages.{IsIn, Release, IsOf, IsMessageSet, KeepTo}
use Rattle.can_plan.specs.Analysis.{Ranking}
use Rattle.can_plan.proofs.Windows.{InOrder, IsLeft, IsRanked}

-- ---- the order of messages

abbrev pub Rising : List Message → Type 0
Rising [] = Unit {0}
Rising (x ∷ ms) = ((y : Message) → IsIn ms y → Before x.field y.field) × Rising ms

rising-from : (ms : List Message) → ((i j : ℕ) (a b : Message) → i < j → slice_get ms i ≡ Some a → slice_get ms j ≡ Some b → Before a.field b.field) → Rising ms
rising-from [] h = tt
rising-from (x ∷ ms) h = (λ y s. h 0 (suc s.0) x y (omega arith) refl s.1, rising-from ms (λ i j a b less is_a is_b. h (suc i) (suc j) a b (omega arith) is_a is_b))

rising-apart : (a b : List Message) → Rising (a ++ b) → (x y : Message) → IsIn a x → IsIn b y → Before x.field y.field
rising-apart [] b rising x y s t = absurd (stands-none x s)
rising-apart (z ∷ a) b rising x y s t =
    elim (stands-cases z a x s) [
      | inl e ↦ subst (λ (k : Message). Before k.field y.field) e (rising.0 y (stands-back a b y t))
      | inr later ↦ rising-apart a b rising.1 x y later t
    ]

rising-back : (a b : List Message) → Rising (a ++ b) → Rising b
rising-back [] b rising = rising
rising-back (z ∷ a) b rising = rising-back a b rising.1

module _ (messages : List Message) (is : IsMessageSet messages) (ranking : Ranking) (whole : messages ≡ ranking.higher ++ ranking.message ∷ ranking.lower) where
  rising : Rising (ranking.higher ++ ranking.message ∷ ranking.lower)
  rising = subst Rising whole (rising-from messages is.ascending)

  inside : (m : Message) → IsIn (ranking.higher ++ ranking.message ∷ ranking.lower) m → IsIn messages m
  inside m s = subst (λ l. IsIn l m) (sym whole) s

  pub ranking-of : IsRanked messages ranking
  ranking-of = record {
    members = λ m s. elim (stands-cases ranking.message ranking.higher m s) [
      | inl e ↦ subst (IsIn messages) e (inside ranking.message (stands-middle ranking.higher ranking.message ranking.lower))
      | inr h ↦ inside m (stands-front ranking.higher (ranking.message ∷ ranking.lower) m h)
    ];
    others = λ m s. inside m (stands-back ranking.higher (ranking.message ∷ ranking.lower) m (stands-later ranking.message ranking.lower m s));
    either = λ m s. elim (stands-either ranking.higher (ranking.message ∷ ranking.lower) m (subst (λ l. IsIn l m) whole s)) [
      | inl h ↦ inl (stands-later ranking.message ranking.higher m h)
      | inr k ↦ elim (stands-cases ranking.message ranking.lower m k) [ inl e ↦ inl (subst (IsIn (ranking.message ∷ ranking.higher)) e (stands-here ranking.message ranking.higher)) | inr l ↦ inr l ]
    ];
    above = λ m n s t. elim (stands-cases ranking.message ranking.higher m s) [
      | inl e ↦ subst (λ (k : Message). Before k.field n.field) e ((rising-back ranking.higher (ranking.message ∷ ranking.lower) rising).0 n t)
      | inr h ↦ rising-apart ranking.higher (ranking.message ∷ ranking.lower) rising m n h (stands-later ranking.message ranking.lower n t)
    ];
    periodic = λ m s. is.periodic s.0 m s.1;
    sized = is.sized ranking.message (inside ranking.message (stands-middle ranking.higher ranking.message ranking.lower));
  }

-- ---- releases that keep to them

module _ (messages : List Message) where
  releases-in-order : (releases : List Release) → ((i j : ℕ) (a b : Release) (m : Message) → i < j → slice_get releases i ≡ Some a → slice_get releases j ≡ Some b →
      IsIn messages m → IsOf m a → IsOf m b → a.released + m.period ≤ b.released) → InOrder messages releases
  releases-in-order [] h = tt
  releases-in-order (x ∷ releases) h = (
    λ y s m there a b. h 0 (suc s.0) x y m (omega arith) refl s.1 there a b,
    releases-in-order releases (λ i j a b m less is_a is_b. h (suc i) (suc j) a b m (omega arith) is_a is_b),
  )

  pub left-keep : (releases : List Release) → KeepTo messages releases → IsLeft messages releases
  left-keep releases r = record { fits = λ x s. record { known = r.known x s; within = λ m there of. r.within x m s there of }; ordered = releases-in-order releases r.apart }
