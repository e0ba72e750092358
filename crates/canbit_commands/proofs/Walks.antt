-- Words in which the program's command finds no fault name one of its subcommands.
use Rattle.std.proofs.Common.{◌≡◌, ◌⊎◌, ◌∙◌, ◌&&◌, ◌||◌, ap, codes, cond, false, inl, inr, is_some, option_map, refl, sym, true, ℕ, Bool, List, [], ◌∷◌, Option, Some, None}
use Rattle.std.proofs.lemmas.Slice.Eq.{bytes_eq-Decides}
use Rattle.std.specs.List.{AllByRecursion}
use Rattle.std.specs.Prelude.{find, fold}
use Rattle.std.specs.Str.{bytes_eq}
use Rattle.clap.specs.declared.error.kind.ErrorKind.TheVariants.{DisplayHelp, InvalidSubcommand}
use Rattle.clap.specs.Faults.{check_fault, defaults_fault, entered_fault, fault_of, level_fault, other_fault, settle_fault, turn_fault, walk_fault, word_fault}
use Rattle.clap.specs.Kinds.{Kinds, check_kinds, or_else}
use Rattle.clap.specs.Lexer.{long_of, short_of}
use Rattle.clap.specs.Simple.{Shape, argument_words, built, entered, label_of, names_of, rows_at, subcommand_of}
use Rattle.clap.specs.Walk.{Held, Names, Outcome, Row, Rule, Step, Text, Waiting, Walk, after_flag, after_step, answers_to, arg_by_index, done, finished, idle, long_or_other, next, nothing_held, option, plain, plain_word, positional, refused, settled, short_or_plain, stop_after, subcommand, subcommand_met, subcommand_or_other, to_positional, trailing, value, waits, walk, walk_from, walked, walked_from, word_met}
use Rattle.canbit_commands.specs.declared.subcommands.Chosen.{Chosen}
use Rattle.canbit_commands.specs.declared.subcommands.Chosen.TheVariants.{Encode, Decode, Run, Check}
use Rattle.canbit_commands.specs.Subcommands.{canbit, name_of}

-- no kinds come only of two empty lists
or_else-nil : (a b : Kinds) → or_else a b ≡ [] → (a ≡ []) × (b ≡ [])
or_else-nil [] b e = (refl, e)
or_else-nil (k ∷ ks) b e = cc

abbrev is_help : Text → Bool
is_help name = bytes_eq name (codes "help")

-- the walk did not stop at `help`
abbrev AvoidsHelp : Option (Text × List Text) → Type 0
AvoidsHelp None = Unit {0}
AvoidsHelp (Some p) = is_help p.0 ≡ false

-- the step is not the subcommand `help`
abbrev StepAvoidsHelp : Step → Type 0
StepAvoidsHelp (subcommand name) = is_help name ≡ false
StepAvoidsHelp step = Unit {0}

-- a word that is read as a flag, as an option or as a value is no subcommand
plain_avoids : (c : List Rule) (waiting : Waiting) (word : Text) (h : Held) → StepAvoidsHelp (plain_word c waiting word h).1
plain_avoids c idle word h = tt
plain_avoids c (option id) word h = tt
plain_avoids c positional word h = tt

flag_avoids : (c : List Rule) (waiting : Waiting) (word : Text) (h : Held) (outcome : Outcome) → StepAvoidsHelp (after_flag c waiting word h outcome).1
flag_avoids c waiting word h done = tt
flag_avoids c waiting word h (waits id) = tt
flag_avoids c waiting word h plain = plain_avoids c waiting word h
flag_avoids c waiting word h refused = plain_avoids c waiting word h

short_avoids : (c : List Rule) (waiting : Waiting) (word : Text) (flags : Option Text) (h : Held) → StepAvoidsHelp (short_or_plain c waiting word flags h).1
short_avoids c waiting word (Some flags) h = flag_avoids c waiting word _ _
short_avoids c waiting word None h = plain_avoids c waiting word h

long_avoids : (c : List Rule) (waiting : Waiting) (word : Text) (long : Option (Text × Option Text)) (h : Held) → StepAvoidsHelp (long_or_other c waiting word long h).1
long_avoids c waiting word (Some p) h = flag_avoids c waiting word _ _
long_avoids c waiting word None h = short_avoids c waiting word (short_of word) h

-- a word with no fault is not `help`
met_avoids : (s : Shape) (names : Names) (is_trailing : Bool) (waiting : Waiting) (position : ℕ) (word : Text) (h : Held) → s.disable_help_subcommand ≡ false
    → word_fault s names is_trailing waiting word h ≡ [] → StepAvoidsHelp (word_met s.rules names is_trailing waiting position word h).1
met_avoids s names true waiting position word h helps none = tt
met_avoids s names false waiting position word h helps none = go (subcommand_met names waiting word) none
  where
    go : (met : Option Text) → other_fault s met word h ≡ [] → StepAvoidsHelp (subcommand_or_other s.rules met waiting position word h).1
    go (Some name) e = named (is_help name) (rw helps at e)
      where
        named : (b : Bool) → cond (b && true) (◌∷◌ DisplayHelp (InvalidSubcommand ∷ [])) [] ≡ [] → b ≡ false
        named true f = cc
        named false f = refl
    go None e = other (bytes_eq word (45 ∷ 45 ∷ []))
      where
        other : (b : Bool) → StepAvoidsHelp (cond b (h, trailing position) (long_or_other s.rules waiting word (long_of word) h)).1
        other true = tt
        other false = long_avoids s.rules waiting word (long_of word) h

-- after such a step the walk did not stop at `help`
step_avoids : (c : List Rule) (word : Text) (w : Walk) (h : Held) (step : Step) → AvoidsHelp w.stopped → StepAvoidsHelp step → AvoidsHelp (after_step c word w h step).stopped
step_avoids c word w h (next waiting) before now = before
step_avoids c word w h (trailing position) before now = before
step_avoids c word w h (subcommand name) before now = now
step_avoids c word w h value before now = go (arg_by_index c w.position)
  where
    go : (a : Option Rule) → AvoidsHelp (to_positional c a word w h).stopped
    go None = before
    go (Some a) = tt

turn_avoids : (s : Shape) (names : Names) (w : Walk) (word : Text) → s.disable_help_subcommand ≡ false
    → turn_fault s names w word ≡ [] → AvoidsHelp w.stopped → AvoidsHelp (walked s.rules names w word).stopped
unfolding walked
turn_avoids s names w word helps none before = go w.stopped refl
  where
    go : (stop : Option (Text × List Text)) → w.stopped ≡ stop → AvoidsHelp (walked_from s.rules names stop w word).stopped
    go (Some p) e = rw e at before
    go None e =
        let parts = or_else-nil _ _ (rw e at none) in
        step_avoids s.rules word w _ _ before (met_avoids s names w.is_trailing w.waiting w.position word w.held helps parts.0)

-- a walk with no fault does not stop at `help`
walk_avoids : (s : Shape) (names : Names) (w : Walk) (words : List Text) → s.disable_help_subcommand ≡ false
    → walk_fault s names w words ≡ [] → AvoidsHelp w.stopped → AvoidsHelp (fold (walked s.rules names) w words).stopped
unfolding walk_fault
walk_avoids s names w [] helps none before = before
walk_avoids s names w (word ∷ words) helps none before =
    let parts = or_else-nil _ _ none in
    walk_avoids s names (walked s.rules names w word) words helps parts.1 (turn_avoids s names w word helps parts.0 before)

-- ---- the subcommand that is entered

or_false : (b : Bool) → (b || false) ≡ true → b ≡ true
or_false true e = refl
or_false false e = e

-- the shape is of one of the program's subcommands, or of `help`
abbrev IsKnown : Shape → Type 0
IsKnown s = (s.aliases ≡ []) × (((c : Chosen) × (s.name ≡ name_of c)) ⊎ (s.name ≡ codes "help"))

abbrev entered_at : Text → List Text → List Shape → Option (Text × List Row)
entered_at name words subs = option_map (λ s. rows_at s words) (find (λ s. answers_to name (label_of s)) subs)

-- one of the program's subcommands was met
abbrev pub IsNamed : Option (Text × List Row) → Type 0
IsNamed met = (c : Chosen) × (option_map (λ p. p.0) met ≡ Some (name_of c))

-- of such shapes one is entered by a name that is not `help`
entered_named : (name : Text) (words : List Text) (subs : List Shape) → AllByRecursion IsKnown subs → is_help name ≡ false
    → is_some (entered_at name words subs) ≡ true → IsNamed (entered_at name words subs)
entered_named name words [] known other some = cc
entered_named name words (s ∷ subs) known other some =
    go (answers_to name (label_of s)) refl (entered_named name words subs known.1 other) some
  where
    met : Bool → Option (Text × List Row)
    met b = option_map (λ x. rows_at x words) (cond b (Some s) (find (λ x. answers_to name (label_of x)) subs))

    go : (b : Bool) → answers_to name (label_of s) ≡ b → (is_some (met false) ≡ true → IsNamed (met false)) → is_some (met b) ≡ true → IsNamed (met b)
    go false e rest one = rest one
    go true e rest one = elim known.0.1 [
      | inl chosen ↦ (chosen.0, ap Some chosen.1)
      | inr help ↦
          let same : s.name ≡ name = (bytes_eq-Decides s.name name).0 (or_false _ (rw known.0.0 at e)) in
          let helps : is_help name ≡ true = (bytes_eq-Decides name (codes "help")).1 (sym same ∙ help) in
          cc
    ]

-- the subcommands of the command as built
known_subcommands : AllByRecursion IsKnown (built canbit).subs
known_subcommands = ((refl, inl (Encode, refl)), ((refl, inl (Decode, refl)), ((refl, inl (Run, refl)), ((refl, inl (Check, refl)), ((refl, inr refl), tt)))))

-- the last checks find a missing subcommand
required : (s : Shape) (rows : List Row) (has_subcommand : Bool) → s.subcommand_required ≡ true → check_fault s rows has_subcommand ≡ [] → has_subcommand ≡ true
required s rows true needs none = refl
required s rows false needs none = go _ (rw needs at none)
  where
    go : (help : Bool) → check_kinds help true false ≡ [] → false ≡ true
    go true e = cc
    go false e = cc

stop_named : (stop : Option (Text × List Text)) → AvoidsHelp stop → is_some (entered (built canbit) stop) ≡ true → IsNamed (entered (built canbit) stop)
stop_named None avoids some = cc
stop_named (Some p) avoids some = entered_named p.0 p.1 (built canbit).subs known_subcommands avoids some

-- of a level with no fault neither the walk nor the last checks have one
level_ends : (s : Shape) (names : Names) (h : Held) (words : List Text) (has_subcommand : Bool) (below : Kinds) → level_fault s names h words has_subcommand below ≡ []
    → (walk_fault s names (walk_from h) words ≡ []) × (check_fault s (finished s.rules (walk s.rules names h words).held) has_subcommand ≡ [])
level_ends s names h words has_subcommand below none =
    let end = (walk s.rules names h words).held in
    let checks = check_fault s (finished s.rules end) has_subcommand in
    let from_defaults = or_else (defaults_fault (settled s.rules end).rows s.rules) checks in
    let from_settling = or_else (settle_fault s.rules s.args_override_self end) from_defaults in
    let first = or_else-nil (walk_fault s names (walk_from h) words) (or_else below from_settling) none in
    let settling = or_else-nil below from_settling first.1 in
    let defaults = or_else-nil (settle_fault s.rules s.args_override_self end) from_defaults settling.1 in
    (first.0, (or_else-nil (defaults_fault (settled s.rules end).rows s.rules) checks defaults.1).1)

-- words with no fault name one of the subcommands
pub subcommand_named : (words : List Text) → fault_of canbit words ≡ [] → IsNamed (subcommand_of canbit words)
subcommand_named words none =
    let app = built canbit in
    let given = argument_words canbit words in
    let stop = stop_after app.top.rules (names_of app) given in
    let ends = level_ends app.top (names_of app) nothing_held given (is_some (entered app stop)) (entered_fault app stop) none in
    stop_named stop (walk_avoids app.top (names_of app) (walk_from nothing_held) given refl ends.0 tt)
    (required app.top (finished app.top.rules (walk app.top.rules (names_of app) nothing_held given).held) (is_some (entered app stop)) refl ends.1)
