-- How far the judge has come in a run and a transcript: definitions of private contracts and of proofs.
use Rattle.std.specs.Prelude.{ℕ, ◌≡◌, ◌<◌, ◌≤◌, ◌%◌, Bool, true, false, List, [], ◌∷◌, get_or, Option, Some, IfSome, slice_get}
use Rattle.can_terms.specs.declared.event.Event.{Event}
use Rattle.can_node.specs.Ports.{PortState}
use Rattle.can_conform.specs.declared.judging.Difference.{Difference}
use Rattle.can_conform.specs.declared.judging.Difference.TheVariants as difference
use Rattle.can_conform.specs.declared.judging.Progress.{Progress}
use Rattle.can_conform.specs.declared.moment.Moment.{Moment}
use Rattle.can_conform.specs.declared.outlook.Outlook.{Outlook}
use Rattle.can_terms.specs.declared.script.Script.{Script}
use Rattle.can_conform.specs.declared.standing.Rule.{Rule}
use Rattle.can_terms.specs.declared.timed.Timed.{Timed}
use Rattle.can_terms.specs.declared.transcript.Transcript.{Transcript}
use Rattle.can_conform.specs.Runs.{before, rule_before, since_before}
use Rattle.can_conform.specs.Transcripts.{no_counts, told_before}
use Rattle.can_conform.specs.Verdicts.{AreCounters, IsEvent, IsLevel}

-- a port, the rule and the last event are those before bit time t
pub record IsStanding (s : Script) (t : ℕ) (p : PortState) (now : Rule) (since : Option (Timed Event)) : Type 0 where
  pub port : p ≡ before s t
  pub decides : now ≡ rule_before s t
  pub last : since ≡ since_before s t

-- a bit time is marked, if it is from t to the last
abbrev pub IsMarked : ℕ → ℕ → ℕ → List Bool → Type 0
IsMarked other t last marks = t ≤ other → other ≤ last → get_or marks (other % 256) false ≡ true

-- the bit times of these elements are marked, from t to the last
abbrev pub AreMarked : {A : Type 0} → List (Timed A) → ℕ → ℕ → List Bool → Type 0
AreMarked [] t last marks = Unit {0}
AreMarked (x ∷ xs) t last marks = IsMarked x.time t last marks × AreMarked xs t last marks

-- marks that were set are set
abbrev pub KeepsMarks : List Bool → List Bool → Type 0
KeepsMarks old new = (n : ℕ) → get_or old n false ≡ true → get_or new n false ≡ true

-- the marks show in which bit times frames or requests of the case come, from t to the last
pub record Foresees (s : Script) (t : ℕ) (o : Outlook) : Type 0 where
  pub offers : AreMarked s.offers.items t o.last o.marks
  pub holds : AreMarked s.holds.items t o.last o.marks

-- the walk along a list has reached this time: each element before this place is earlier, and no other is
pub record HasWalked {A : Type 0} (xs : List (Timed A)) (place time : ℕ) : Type 0 where
  pub passed : (n : ℕ) (x : Timed A) → n < place → slice_get xs n ≡ Some x → x.time < time
  pub ahead : (n : ℕ) (x : Timed A) → place ≤ n → slice_get xs n ≡ Some x → time ≤ x.time

-- the walk along a transcript has reached this time
pub record HasReached (told : Transcript) (p : Progress) (t : ℕ) : Type 0 where
  pub events : IfSome told.events (λ events. HasWalked events.items p.event t)
  pub counters : IfSome told.counters (λ counters. HasWalked counters.items p.counter t)
  pub held : IfSome told.counters (λ counters. p.held ≡ told_before no_counts counters.items t)

-- the difference of bit time t, in which the reference does `m`
abbrev pub IsDifferenceAt : Transcript → ℕ → Moment → Difference → Type 0
IsDifferenceAt told t m (difference.Level one other) = IsLevel told t m one other
IsDifferenceAt told t m (difference.Event one other) = IsEvent told t m one other
IsDifferenceAt told t m (difference.Counters one other) = AreCounters told t m one other
IsDifferenceAt told t m (difference.End one other) = ⊥
