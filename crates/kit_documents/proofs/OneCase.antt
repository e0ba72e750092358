-- A table describes at most one case.
use Rattle.std.specs.String.{string_bytes}
use Rattle.std.proofs.Common.{◌≡◌, ℕ, pos, List, [], ◌∷◌, map, codes, if◌then◌else◌, Option, Some, None, refl, sym, ap, subst, ◌∙◌}
use Rattle.std.specs.Str.{bytes_eq}
use Rattle.toml.specs.Data.{Data, string, integer}
use Rattle.can_frame.specs.Parts.{Parts}
use Rattle.can_frame.specs.declared.level.Level.{Level}
use Rattle.can_terms.specs.declared.script.Start.{Start}
use Rattle.can_terms.specs.declared.script.Start.TheVariants.{Idle, Joining}
use Rattle.can_terms.specs.declared.script.TesterLevel.{TesterLevel}
use Rattle.can_terms.specs.declared.timed.Timed.{Timed}
use Rattle.can_terms.proofs.TimedLemmas.{timed-is}
use Rattle.document_values.specs.Values.{elements_in, named, two, IsRequired, SaysFrame}
use Rattle.document_values.proofs.OneReading.{one-list, one-number, said-frame}
use Rattle.kit_documents.specs.declared.cases.case.Case.{Case}
use Rattle.kit_documents.specs.declared.cases.words.Choice.{Choice}
use Rattle.kit_documents.specs.declared.cases.words.Choice.TheVariants.{ReservedLevels, StuffException, OwnStart, FlagErrorOnce, OwnOverload, Rec127, RecoveryByItself, RecoveryRows, Prompt}
use Rattle.kit_documents.specs.CaseWords.{choice_word, SaysChoices, SaysStart}
use Rattle.kit_documents.specs.Lists.{SaysHold, SaysOffer, SaysTime}
use Rattle.kit_documents.specs.Cases.{tester_level, forced_at, strings_of, AreSameCases, SaysCase, SaysTester}
use Rattle.kit_documents.proofs.OneNeeds.{one-needs}
use Rattle.kit_documents.proofs.TesterParts.{one-strings}
use Rattle.kit_documents.proofs.WordLists.{differ}

-- ---- words

one-start : (field : Option Data) (a b : Start) → IsRequired (λ start. SaysStart start a) field → IsRequired (λ start. SaysStart start b) field → a ≡ b
one-start None a b x y = absurd x
one-start (Some d) Idle Idle x y = refl
one-start (Some d) Joining Joining x y = refl
one-start (Some d) Idle Joining x y =
    let texts : string (codes "idle") ≡ string (codes "joining") = sym x ∙ y in
    absurd (differ (codes "idle") (codes "joining") refl (let words : codes "idle" ≡ codes "joining" = cc in words))
one-start (Some d) Joining Idle x y =
    let texts : string (codes "idle") ≡ string (codes "joining") = sym y ∙ x in
    absurd (differ (codes "idle") (codes "joining") refl (let words : codes "idle" ≡ codes "joining" = cc in words))

-- the choice of a word
choice_of : List ℕ → Choice
choice_of word =
    if bytes_eq word (codes "reserved-levels") then ReservedLevels
    else if bytes_eq word (codes "stuff-exception") then StuffException
    else if bytes_eq word (codes "own-start") then OwnStart
    else if bytes_eq word (codes "flag-error-once") then FlagErrorOnce
    else if bytes_eq word (codes "own-overload") then OwnOverload
    else if bytes_eq word (codes "rec-127") then Rec127
    else if bytes_eq word (codes "recovery-by-itself") then RecoveryByItself
    else if bytes_eq word (codes "recovery-rows") then RecoveryRows
    else Prompt

choice_of-word : (choice : Choice) → choice_of (choice_word choice) ≡ choice
unfolding choice_of
choice_of-word ReservedLevels = refl
choice_of-word StuffException = refl
choice_of-word OwnStart = refl
choice_of-word FlagErrorOnce = refl
choice_of-word OwnOverload = refl
choice_of-word Rec127 = refl
choice_of-word RecoveryByItself = refl
choice_of-word RecoveryRows = refl
choice_of-word Prompt = refl

same_choices : (a b : List Choice) → map string (map choice_word a) ≡ map string (map choice_word b) → a ≡ b
same_choices [] [] e = refl
same_choices [] (y ∷ ys) e = absurd (cc)
same_choices (x ∷ xs) [] e = absurd (cc)
same_choices (x ∷ xs) (y ∷ ys) e =
    let texts : string (choice_word x) ≡ string (choice_word y) = cc in
    let words : choice_word x ≡ choice_word y = cc in
    let rest : map string (map choice_word xs) ≡ map string (map choice_word ys) = cc in
    let first : x ≡ y = sym (choice_of-word x) ∙ ap choice_of words ∙ choice_of-word y in
    ap (λ choice. choice ∷ xs) first ∙ ap (λ choices. y ∷ choices) (same_choices xs ys rest)

one-choices : (field : Option Data) (a b : List Choice) → SaysChoices field a → SaysChoices field b → a ≡ b
one-choices field a b x y = same_choices a b (sym x.said ∙ y.said)

-- ---- lists

one-offer : (d : Data) (a b : Timed Parts) → SaysOffer d a → SaysOffer d b → a ≡ b
one-offer d a b x y =
    let pairs : two (integer (pos a.time)) x.0 ≡ two (integer (pos b.time)) y.0 = sym x.1 ∙ y.1 in
    let frames : x.0 ≡ y.0 = cc in
    let times : a.time ≡ b.time = cc in
    timed-is a b times (said-frame x.0 a.told b.told x.2 (subst (λ (e : Data). SaysFrame e b.told) (sym frames) y.2))

one-hold : (d : Data) (a b : Timed ℕ) → SaysHold d a → SaysHold d b → a ≡ b
one-hold d a b x y =
    let pairs : two (integer (pos a.time)) (integer (pos a.told)) ≡ two (integer (pos b.time)) (integer (pos b.told)) = sym x.0 ∙ y.0 in
    let times : a.time ≡ b.time = cc in
    let told : a.told ≡ b.told = cc in
    timed-is a b times told

one-tester : (d : Data) (a b : List TesterLevel) → SaysTester d a → SaysTester d b → a ≡ b
one-tester d a b x y =
    let levels : x.levels ≡ y.levels = one-strings (strings_of d) x.levels y.levels x.strings y.strings in
    let times : x.times ≡ y.times = one-list SaysTime (λ e m n p q. one-number m n e p q) (elements_in (named (codes "forced") d)) x.times y.times x.forced y.forced in
    x.all ∙ ap (λ ts. forced_at ts (map tester_level x.levels)) times ∙ ap (λ (ls : List Level). forced_at y.times (map tester_level ls)) levels ∙ sym y.all

-- ---- a case

same_text : (field : Option Data) (a b : List ℕ) → field ≡ Some (string a) → field ≡ Some (string b) → a ≡ b
same_text field a b x y = let texts : Some (string a) ≡ Some (string b) = sym x ∙ y in cc

pub one-case : (d : Data) (a b : Case) → SaysCase d a → SaysCase d b → AreSameCases a b
one-case d a b x y = record {
  name = same_text (named (codes "name") d) (string_bytes a.name) (string_bytes b.name) x.name y.name;
  needs = one-needs (named (codes "needs") d) a.needs b.needs x.needs y.needs;
  choices = one-choices (named (codes "choices") d) a.choices.items b.choices.items x.choices y.choices;
  start = one-start (named (codes "start") d) a.script.start b.script.start x.start y.start;
  tester = one-tester d a.script.tester.items b.script.tester.items x.tester y.tester;
  offers = one-list SaysOffer one-offer (elements_in (named (codes "offers") d)) a.script.offers.items b.script.offers.items x.offers y.offers;
  holds = one-list SaysHold one-hold (elements_in (named (codes "holds") d)) a.script.holds.items b.script.holds.items x.holds y.holds;
}
