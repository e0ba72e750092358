-- Arrays of words: choices, and needs in their order.
use Rattle.std.specs.List.{list_any}
use Rattle.std.specs.Str.{bytes_eq}
use Rattle.std.proofs.lemmas.Map.Text.{is_eq-slice_cmp}
use Rattle.std.proofs.Common.{◌≡◌, ◌≢◌, ℕ, zero, suc, ◌<◌, Bool, true, false, List, [], ◌∷◌, ◌++◌, length, map, get_or, codes, if◌then◌else◌, Option, Some, None, MatchBool, MatchOption, refl, sym, ap, ◌∙◌, arith}
use Rattle.std.proofs.lemmas.Bool.{false≢true}
use Rattle.std.proofs.lemmas.List.{append_cancel_left}
use Rattle.std.proofs.lemmas.Slice.Eq.{bytes_eq-Decides}
use Rattle.toml.specs.Data.{Data, same_key, string}
use Rattle.toml.specs.View.{view}
use Rattle.toml.specs.declared.value.Value.{Value}
use Rattle.kit_documents.specs.declared.cases.words.Choice.{Choice}
use Rattle.kit_documents.specs.declared.cases.words.Needs.{Needs}
use Rattle.kit_documents.specs.Cases.{case_name}
use Rattle.can_terms.specs.declared.script.Start.{Start}
use Rattle.document_values.specs.Values.{IsRequired}
use Rattle.kit_documents.specs.CaseWords.{choice_word, need_words, SaysStart, TakesWord}

-- ---- choices

-- if one element is no word of a choice, the elements are not those of choices
pub choices-other : (values : List Value) (place : ℕ) (value : Value) → place < length values → value ≡ get_or values place value → ((choice : Choice) → view value ≢ string (choice_word choice))
    → (choices : List Choice) → map view values ≢ map string (map choice_word choices)
choices-other [] place value within is none choices same = absurd (omega (arith, within))
choices-other (v ∷ values) place value within is none [] same = absurd (cc)
choices-other (v ∷ values) zero value within is none (choice ∷ choices) same =
    let first : view v ≡ string (choice_word choice) = cc in
    none choice (ap view is ∙ first)
choices-other (v ∷ values) (suc place) value within is none (choice ∷ choices) same =
    let rest : map view values ≡ map string (map choice_word choices) = cc in
    choices-other values place value (omega (arith, within)) is none choices rest

-- ---- needs

-- such elements don't begin with this word
unfoldable pub IsNotFirst : List ℕ → List (List ℕ) → Type 0
IsNotFirst word words = (rest : List Data) → map string words ≢ string word ∷ rest

pub not_first-other : (word other : List ℕ) (b : Bool) (more : List (List ℕ)) → word ≢ other → IsNotFirst word more → IsNotFirst word ((if b then other ∷ [] else []) ++ more)
unfolding IsNotFirst
not_first-other word other false more differ none = none
not_first-other word other true more differ none = λ rest e. differ (let same : word ≡ other = cc in same)

-- what is left of the words after one of them
behind : (word : List ℕ) (ds rest : List Data) (b said : Bool) (more : List (List ℕ)) → IsNotFirst word more → TakesWord word ds b rest → ds ≡ map string ((if said then word ∷ [] else []) ++ more) → rest ≡ map string more
unfolding IsNotFirst
behind word ds rest true true more none takes is = let both : string word ∷ rest ≡ string word ∷ map string more = sym takes ∙ is in cc
behind word ds rest true false more none takes is = absurd (none rest (sym is ∙ takes))
behind word ds rest false true more none takes is = absurd (takes.1 (map string more) is)
behind word ds rest false false more none takes is = takes.0 ∙ is

behind_last : (word : List ℕ) (ds rest : List Data) (b said : Bool) → TakesWord word ds b rest → ds ≡ map string (if said then word ∷ [] else []) → rest ≡ []
behind_last word ds rest true true takes is = let both : string word ∷ rest ≡ string word ∷ [] = sym takes ∙ is in cc
behind_last word ds rest true false takes is = let both : string word ∷ rest ≡ [] = sym takes ∙ is in absurd (cc)
behind_last word ds rest false true takes is = absurd (takes.1 [] is)
behind_last word ds rest false false takes is = takes.0 ∙ is

pub differ : (a b : List ℕ) → bytes_eq a b ≡ false → a ≢ b
differ a b other e = false≢true (sym other ∙ (bytes_eq-Decides a b).1 e)

-- the words are taken one after another
pub record AreTaken (ds : List Data) (needs : Needs) (rest : List Data) : Type 0 where
  pub behind_forced : List Data
  pub behind_hold : List Data
  pub behind_queue : List Data
  pub forced : TakesWord (codes "forced") ds needs.forced behind_forced
  pub hold : TakesWord (codes "hold") behind_forced needs.hold behind_hold
  pub queue : TakesWord (codes "queue") behind_hold needs.queue behind_queue
  pub recovery : TakesWord (codes "recovery") behind_queue needs.recovery rest

abbrev pub recovery_word : Needs → List (List ℕ)
recovery_word n = if n.recovery then codes "recovery" ∷ [] else []

abbrev pub queue_words : Needs → List (List ℕ)
queue_words n = (if n.queue then codes "queue" ∷ [] else []) ++ recovery_word n

abbrev pub hold_words : Needs → List (List ℕ)
hold_words n = (if n.hold then codes "hold" ∷ [] else []) ++ queue_words n

pub not_first-last : (word other : List ℕ) (b : Bool) → word ≢ other → IsNotFirst word (if b then other ∷ [] else [])
unfolding IsNotFirst
not_first-last word other false differ = λ rest e. cc
not_first-last word other true differ = λ rest e. differ (let same : word ≡ other = cc in same)

pub needs-none : (ds : List Data) (needs : Needs) (rest : List Data) → AreTaken ds needs rest → rest ≢ [] → (said : Needs) → ds ≢ map string (need_words said)
needs-none ds needs rest are some said is =
    let no_forced_in_recovery = not_first-last (codes "forced") (codes "recovery") said.recovery (differ (codes "forced") (codes "recovery") refl) in
    let no_forced_in_queue = not_first-other (codes "forced") (codes "queue") said.queue (recovery_word said) (differ (codes "forced") (codes "queue") refl) no_forced_in_recovery in
    let no_forced_in_hold = not_first-other (codes "forced") (codes "hold") said.hold (queue_words said) (differ (codes "forced") (codes "hold") refl) no_forced_in_queue in
    let no_hold_in_recovery = not_first-last (codes "hold") (codes "recovery") said.recovery (differ (codes "hold") (codes "recovery") refl) in
    let no_hold_in_queue = not_first-other (codes "hold") (codes "queue") said.queue (recovery_word said) (differ (codes "hold") (codes "queue") refl) no_hold_in_recovery in
    let no_queue_in_recovery = not_first-last (codes "queue") (codes "recovery") said.recovery (differ (codes "queue") (codes "recovery") refl) in
    let behind_forced : are.behind_forced ≡ map string (hold_words said) = behind (codes "forced") ds are.behind_forced needs.forced said.forced (hold_words said) no_forced_in_hold are.forced is in
    let behind_hold : are.behind_hold ≡ map string (queue_words said) = behind (codes "hold") are.behind_forced are.behind_hold needs.hold said.hold (queue_words said) no_hold_in_queue are.hold behind_forced in
    let behind_queue : are.behind_queue ≡ map string (recovery_word said) = behind (codes "queue") are.behind_hold are.behind_queue needs.queue said.queue (recovery_word said) no_queue_in_recovery are.queue behind_hold in
    some (behind_last (codes "recovery") are.behind_queue rest needs.recovery said.recovery are.recovery behind_queue)

-- ---- names

-- names among those of tables
pub names-taken : (name : List ℕ) (values : List Value) → list_any (λ value. bytes_eq name (case_name (view value))) values ≡ list_any (λ other. same_key name (case_name other)) (map view values)
names-taken name [] = refl
names-taken name (value ∷ values) = rw (is_eq-slice_cmp name (case_name (view value)), names-taken name values)

-- a name that begins with the family and something more
pub begins-on : (name family rest : List ℕ) (b : Bool) → name ≡ family ++ rest → MatchBool b ((more : List ℕ) × (rest ≡ 45 ∷ more)) ((more : List ℕ) → rest ≢ 45 ∷ more)
    → MatchBool b ((more : List ℕ) × (name ≡ family ++ (45 ∷ more))) ((more : List ℕ) → name ≢ family ++ (45 ∷ more))
begins-on name family rest true is found = (found.0, is ∙ ap (λ r. family ++ r) found.1)
begins-on name family rest false is none = λ more same. none more (append_cancel_left family rest (45 ∷ more) (sym is ∙ same))

-- ---- what isn't there

pub match-none : {A : Type 0} (o : Option A) (N : Type 0) (S : A → Type 0) → o ≡ None → MatchOption o N S → N
match-none None N S e m = m
match-none (Some x) N S e m = absurd (cc)

pub start-said : (field : Option Data) (start : Start) → IsRequired (λ value. SaysStart value start) field → IsRequired (λ value. (s : Start) × SaysStart value s) field
start-said None start said = said
start-said (Some d) start said = (start, said)
