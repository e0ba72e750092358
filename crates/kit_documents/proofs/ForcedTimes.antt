-- Forced bit times: they are within the case, and the tester is recessive at each, or there is a first at which it isn't.
use Rattle.std.proofs.Common.{◌≡◌, ◌≢◌, ℕ, zero, suc, ◌+◌, ◌<◌, List, [], ◌∷◌, length, map, take, get_or, set, Some, All, refl, sym, ap, subst, inl, inr, ◌∙◌, arith}
use Rattle.std.specs.List.{slice_get}
use Rattle.std.proofs.lemmas.List.{length-map, length-set}
use Rattle.std.proofs.lemmas.List.Elements.{All-cons, All-head, All-nil, All-tail}
use Rattle.toml.specs.Data.{Data}
use Rattle.can_frame.specs.declared.level.Level.{Level}
use Rattle.can_frame.specs.declared.level.Level.TheVariants.{Recessive}
use Rattle.kit_documents.specs.declared.field.KitField.{KitField}
use Rattle.kit_documents.specs.declared.field.CaseField.TheVariants as of_case
use Rattle.document_values.specs.Demands.{AllMet, IsFirstUnmet, demands_on_each}
use Rattle.document_values.specs.Values.{ArePaired}
use Rattle.can_terms.specs.declared.script.TesterLevel.{TesterLevel}
use Rattle.can_terms.specs.declared.script.TesterLevel.TheVariants as tester
use Rattle.kit_documents.specs.Cases.{tester_level, forced_at, forced_demands, in_case}
use Rattle.kit_documents.specs.Lists.{element_demands, time_in, SaysTime, SayStrings}
use Rattle.kit_documents.proofs.TesterParts.{one-strings}

-- times of elements in time are below the end
pub times-below : (named : ℕ → KitField) (end apart : ℕ) (all : List Data) (place : ℕ) (ds : List Data) (times : List ℕ)
    → AllMet (demands_on_each (element_demands named SaysTime end apart all) place ds) → ArePaired SaysTime ds times → All (λ time. time < end) times
times-below named end apart all place [] [] met pairs = All-nil (λ time. time < end)
times-below named end apart all place [] (time ∷ times) met pairs = absurd pairs
times-below named end apart all place (d ∷ ds) [] met pairs = absurd pairs
times-below named end apart all place (d ∷ ds) (time ∷ times) met pairs =
    let within = met.0.1.within in
    let same : time_in d ≡ time = ap time_in pairs.0 in
    All-cons (λ time. time < end) time times (omega (arith, within, same)) (times-below named end apart all (place + 1) ds times met.1 pairs.1)

module _ (number : ℕ) (strings : List Data) (levels : List Level) (said : SayStrings strings levels) where
  pub recessive-met : (from : ℕ) (ds : List Data) (times : List ℕ) → All (λ time. slice_get levels time ≡ Some Recessive) times → ArePaired SaysTime ds times
      → AllMet (demands_on_each (forced_demands number strings) from ds)
  recessive-met from [] [] are pairs = tt
  recessive-met from [] (time ∷ times) are pairs = absurd pairs
  recessive-met from (d ∷ ds) [] are pairs = absurd pairs
  recessive-met from (d ∷ ds) (time ∷ times) are pairs =
      let same : time ≡ time_in d = sym (ap time_in pairs.0) in (
        (levels, said, subst (λ (n : ℕ). slice_get levels n ≡ Some Recessive) same (All-head (λ time. slice_get levels time ≡ Some Recessive) time times are)),
        recessive-met (from + 1) ds times (All-tail (λ time. slice_get levels time ≡ Some Recessive) time times are) pairs.1,
      )

  pub recessive-unmet : (from : ℕ) (ds : List Data) (times : List ℕ) (place at : ℕ) → at ≡ from + place → place < length times → slice_get levels (get_or times place 0) ≢ Some Recessive
      → All (λ time. slice_get levels time ≡ Some Recessive) (take place times) → ArePaired SaysTime ds times → IsFirstUnmet (in_case number (of_case.ForcedTime at)) (demands_on_each (forced_demands number strings) from ds)
  recessive-unmet from ds [] place at is within other before pairs = absurd (omega (arith, within))
  recessive-unmet from [] (time ∷ times) place at is within other before pairs = absurd pairs
  recessive-unmet from (d ∷ ds) (time ∷ times) zero at is within other before pairs =
      let here : from ≡ at = omega (arith, is) in
      inl (
        ap (λ (n : ℕ). in_case number (of_case.ForcedTime n)) here,
        λ met.
            other (subst (λ (ls : List Level). slice_get ls time ≡ Some Recessive) (one-strings strings met.0 levels met.1 said)
            (subst (λ (n : ℕ). slice_get met.0 n ≡ Some Recessive) (ap time_in pairs.0) met.2)),
      )
  recessive-unmet from (d ∷ ds) (time ∷ times) (suc place) at is within other before pairs =
      let same : time ≡ time_in d = sym (ap time_in pairs.0) in
      inr (
        (levels, said, subst (λ (n : ℕ). slice_get levels n ≡ Some Recessive) same (All-head (λ time. slice_get levels time ≡ Some Recessive) time (take place times) before)),
        recessive-unmet (from + 1) ds times place at (omega (arith, is)) (omega (arith, within)) other (All-tail (λ time. slice_get levels time ≡ Some Recessive) time (take place times) before) pairs.1,
      )

-- forcing bit times keeps their number
pub length-forced : (times : List ℕ) (levels : List TesterLevel) → length (forced_at times levels) ≡ length levels
length-forced [] levels = refl
length-forced (time ∷ times) levels = length-forced times (set levels time tester.Forced) ∙ length-set levels time tester.Forced

pub length-tester : (times : List ℕ) (levels : List Level) → length (forced_at times (map tester_level levels)) ≡ length levels
length-tester times levels = length-forced times (map tester_level levels) ∙ length-map levels tester_level
