-- What the results of `clap` for the program's words mean.
use Rattle.std.proofs.Common.{◌≡◌, ◌≢◌, ◌∙◌, ap, inl, inr, option_map, refl, subst, true, List, [], ◌∷◌, Option, Some, None, Result, Ok, Err, IfOk, OnOk, MatchResult}
use Rattle.std.specs.Prelude.{Box}
use Rattle.clap.specs.Words.{App, FailsBy, HasKind, HasMatchesOf, Kinds, Text, fault_of, is_simple, is_simple_and_free, kind_of, subcommand_name_of, subcommand_of}
use Rattle.clap.specs.declared.error.Error.{Error}
use Rattle.clap.specs.declared.error.kind.ErrorKind.TheVariants.{DisplayHelp, OutOfMemory}
use Rattle.clap.specs.declared.parser.matches.ArgMatches.{ArgMatches}
use Rattle.clap.specs.declared.parser.matches.ArgMatches.TheViews.{out-ArgMatches, out-SubCommand}
use Rattle.clap.specs.declared.parser.matches.SubCommand.{SubCommand}
use Rattle.clap.specs.Simple.{subcommand_rows}
use Rattle.std.specs.Box.{box_value}
use Rattle.clap.proofs.OnLiterals.{clap_on_literals}
use Rattle.canbit_commands.specs.declared.subcommands.Chosen.{Chosen}
use Rattle.canbit_commands.specs.declared.subcommands.Chosen.TheVariants.{Encode, Decode, Run, Check}
use Rattle.canbit_commands.specs.Subcommands.{canbit, name_of}
use Rattle.canbit_commands.specs.Words.{AsksFor, IsMisuse, faults_in, named_in}
use Rattle.canbit_commands.proofs.Walks.{subcommand_named}

-- the command is simple, and no argument has a rule on another
simple : is_simple canbit ≡ true
simple = refl

free : is_simple_and_free canbit ≡ true
free = refl

-- what is true of a simple and free command is true of the program's
told : (P : App → Type 0) (app : App) → app ≡ canbit → (is_simple_and_free app ≡ true → P app) → P canbit
told P app is h = subst P is (h (ap is_simple_and_free is ∙ free))

module _ {Z : Type 0} where
  name_of_row : (o : Option (Box SubCommand Z)) → option_map (λ b. (out-SubCommand (box_value b)).name.now) o ≡ option_map (λ p. p.0) (subcommand_rows o)
  name_of_row None = refl
  name_of_row (Some b) = refl

-- a subcommand's name alone after the program's name has no fault, and names the subcommand
alone_taken : (name : Text) (chosen : Chosen) → fault_of canbit (name ∷ name_of chosen ∷ []) ≡ []
unfolding clap_on_literals
alone_taken name Encode = refl
alone_taken name Decode = refl
alone_taken name Run = refl
alone_taken name Check = refl

alone_named : (name : Text) (chosen : Chosen) → named_in (name ∷ name_of chosen ∷ []) ≡ Some (name_of chosen)
unfolding clap_on_literals
alone_named name Encode = refl
alone_named name Decode = refl
alone_named name Run = refl
alone_named name Check = refl

no_memory : (kinds : Kinds) (e : Error) → HasKind kinds e → kinds ≡ [] → kind_of e ≡ OutOfMemory
no_memory kinds e (inl memory) none = memory
no_memory kinds e (inr among) none = absurd (rw none at among)

-- a parse of the words by the program's command
module _ (app : App) (words : List Text) (is : app ≡ canbit) where
  -- the parse found the subcommand that the words name
  name_met : (m : ArgMatches) → HasMatchesOf app words m → subcommand_name_of m ≡ named_in words
  name_met m has =
      name_of_row (out-ArgMatches m).subcommand
      ∙ ap (option_map (λ p. p.0)) ((has (ap is_simple is ∙ simple)).1 ∙ ap (λ a. subcommand_of a words) is)

  -- the words have no fault
  pub taken : (r : Result ArgMatches Error) → (is_simple_and_free app ≡ true → FailsBy (fault_of app words) r) → OnOk r (fault_of canbit words ≡ [])
  taken (Ok m) fails = told (λ a. fault_of a words ≡ []) app is fails
  taken (Err e) fails = tt

  -- the parse found a subcommand of the program
  pub known : (r : Result ArgMatches Error) → IfOk r (HasMatchesOf app words) → (is_simple_and_free app ≡ true → FailsBy (fault_of app words) r)
      → IfOk r (λ m. (chosen : Chosen) × (subcommand_name_of m ≡ Some (name_of chosen)))
  known (Ok m) has fails =
      let named = subcommand_named words (taken (Ok m) fails) in
      (named.0, name_met m has ∙ named.1)
  known (Err e) has fails = tt

  -- a subcommand's name alone is refused only if memory runs out
  pub alone : (r : Result ArgMatches Error) → IfOk r (HasMatchesOf app words) → (is_simple_and_free app ≡ true → FailsBy (fault_of app words) r)
      → (name : Text) (chosen : Chosen) → words ≡ name ∷ name_of chosen ∷ []
      → MatchResult r (λ m. subcommand_name_of m ≡ Some (name_of chosen)) (λ e. kind_of e ≡ OutOfMemory)
  alone (Ok m) has fails name chosen e = name_met m has ∙ ap named_in e ∙ alone_named name chosen
  alone (Err x) has fails name chosen e =
      no_memory _ x (told (λ a. HasKind (fault_of a words) x) app is fails) (ap (fault_of canbit) e ∙ alone_taken name chosen)

-- an error that is neither for memory nor a request for help is misuse
pub misuse : (words : List Text) (e : Error) → HasKind (faults_in words) e → (kind_of e ≢ OutOfMemory) × (kind_of e ≢ DisplayHelp) → IsMisuse words
misuse words e (inl memory) other = absurd (other.0 memory)
misuse words e (inr among) other = (kind_of e, among, other.1)

-- a subcommand's name alone after the program's name asks for the subcommand
pub alone_asks : (words : List Text) (name : Text) (chosen : Chosen) → words ≡ name ∷ name_of chosen ∷ [] → AsksFor chosen words
alone_asks words name chosen is = (ap (fault_of canbit) is ∙ alone_taken name chosen, ap named_in is ∙ alone_named name chosen)
