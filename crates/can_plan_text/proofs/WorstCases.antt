-- The parts of a worst case.
use Rattle.std.proofs.Common.{◌≡◌, ℕ, ◌+◌, ◌<◌, List, [], ◌∷◌, ◌++◌, take, drop, Option, Some, None, refl, sym, subst}
use Rattle.std.proofs.lemmas.List.{append-nil}
use Rattle.can_plan.specs.Analysis.{IsLeast}
use Rattle.can_plan_text.specs.declared.plan.Planned.{Planned}
use Rattle.can_plan_text.specs.declared.case.Sequence.{Sequence}
use Rattle.can_plan_text.specs.declared.case.WorstCase.{WorstCase}
use Rattle.can_plan_text.specs.Worst.{AreOfBlocker, AreSequences, IsBlocker, IsBusyPeriod, IsOnce, IsTooLong, IsWorstCase, blocking_of, most_long}

-- ---- what blocks a level

pub of-none : (blocker : Option Planned) (items : List Sequence) → blocker ≡ None → (once : List Sequence) × AreOfBlocker blocker once × (items ≡ items ++ once)
of-none blocker items is = ([], subst (λ (b : Option Planned). AreOfBlocker b []) (sym is) refl, sym (append-nil items))

pub of-some : (blocker : Option Planned) (items after : List Sequence) (b : Planned) (s : Sequence) → blocker ≡ Some b → IsOnce b s → after ≡ items ++ s ∷ [] →
    (once : List Sequence) × AreOfBlocker blocker once × (after ≡ items ++ once)
of-some blocker items after b s is once more = (s ∷ [], subst (λ (o : Option Planned). AreOfBlocker o (s ∷ [])) (sym is) (s, once, refl), more)

-- ---- a priority level, and the messages after it

module _ (planned : List Planned) (place : ℕ) (blocker : Option Planned) (level lower : List Planned) (left : ℕ)
    (first : level ≡ take (place + 1) planned) (rest : lower ≡ drop (place + 1) planned) (its : left ≡ blocking_of blocker) (is : IsBlocker lower blocker) where
  behind-by : IsBlocker (drop (place + 1) planned) blocker
  behind-by = subst (λ (l : List Planned). IsBlocker l blocker) rest is

  pub worst-by : (w : WorstCase) → IsLeast (IsBusyPeriod left level) w.long → AreSequences w.long level blocker w.sequences.items → IsWorstCase planned place w
  worst-by w least are = record {
    blocker = blocker;
    behind = behind-by;
    busy =
        subst (λ (n : ℕ). IsLeast (IsBusyPeriod n (take (place + 1) planned)) w.long) its
        (subst (λ (l : List Planned). IsLeast (IsBusyPeriod left l) w.long) first least);
    sequences = subst (λ (l : List Planned). AreSequences w.long l blocker w.sequences.items) first are;
  }

  pub too_long-by : ((n : ℕ) → IsBusyPeriod left level n → most_long < n) → IsTooLong planned place
  too_long-by none = record {
    blocker = blocker;
    behind = behind-by;
    above =
        subst (λ (k : ℕ). (n : ℕ) → IsBusyPeriod k (take (place + 1) planned) n → most_long < n) its
        (subst (λ (l : List Planned). (n : ℕ) → IsBusyPeriod left l n → most_long < n) first none);
  }
