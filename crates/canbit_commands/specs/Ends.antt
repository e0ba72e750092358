-- The promises of the functions below `execute`, each in one record: each way in which such a function returns is then one goal.
use Rattle.std.specs.Prelude.{◌≡◌, ◌≢◌, ◌⊎◌, ◌↔◌, ◌<◌, ℕ, Bool, IsErrOf, IsFalse, IsTrue, List, OnOk, Option, Result}
use Rattle.std.specs.Io.KnownBytes.{IsAtEnd}
use Rattle.can_stream.specs.Told.{Told}
use Rattle.can_stream.specs.declared.fault.TraceFault.{TraceFault}
use Rattle.can_stream.specs.declared.fault.TraceFault.TheVariants.{BadByte, ScenarioField, Read, Write, Memory, Long, FrameLine}
use Rattle.can_stream.specs.declared.field.Field.{Field}
use Rattle.canbit_commands.specs.declared.subcommands.Chosen.{Chosen}
use Rattle.canbit_commands.specs.declared.subcommands.Chosen.TheVariants.{Run}
use Rattle.canbit_commands.specs.Answers.{AnswersAll, AnswersEnded, BeginsAnswering, HasBadByte, RefusesInput, RefusesScenario, Reports}
use Rattle.can_program.specs.Written.{WritesBeginning, WritesNothing}

-- The reader and the writer before and after a call; whether the reader has ended or failed by then; and whether the writer has
-- failed, so that what it took is incomplete.
module _ {R W : Type 0} (remaining : R → Option (List ℕ)) (before after : R) (contents : W → Option (List ℕ))
    (held holds : W) (has_ended has_failed is_cut : Bool) where
  -- a scenario was read and run, with this result
  pub record RunEnds (result : Result (Unit {0}) TraceFault) : Type 0 where
    pub ok : OnOk result (Told remaining before after contents held holds Reports)
    pub field : (wrong : Field) → IsErrOf result (ScenarioField wrong)
        → Told remaining before after contents held holds (RefusesScenario wrong)
    pub read : IsErrOf result Read → Told remaining before after contents held holds WritesNothing
    pub write : IsErrOf result Write → Told remaining before after contents held holds (WritesBeginning Reports)
    pub memory : IsErrOf result Memory → holds ≡ held
    pub no_byte : (place : ℕ) → IsErrOf result (BadByte place) → ⊥
    pub no_line : (n : ℕ) (fault : _) → IsErrOf result (FrameLine n fault) → ⊥
    pub no_long : IsErrOf result Long → ⊥
    pub ended : OnOk result (IsTrue has_ended)
    pub at_end : OnOk result (IsAtEnd (remaining after))
    pub field_ended : (wrong : Field) → IsErrOf result (ScenarioField wrong) → IsTrue has_ended
    pub write_ended : IsErrOf result Write → IsTrue has_ended
    pub read_failed : IsErrOf result Read ↔ IsTrue has_failed
    pub write_failed : IsErrOf result Write ↔ IsTrue is_cut

  -- what a subcommand is for was done, and the exit status is this one
  pub record Ends (chosen : Chosen) (status : ℕ) : Type 0 where
    pub all_done : status ≡ 0 → Told remaining before after contents held holds (AnswersAll chosen)
    pub all_read : status ≡ 0 → IsTrue has_ended × IsAtEnd (remaining after)
    pub input_refused : status ≡ 1 → Told remaining before after contents held holds (RefusesInput chosen has_ended)
    pub reader_failed : status ≡ 3 → IsFalse is_cut → Told remaining before after contents held holds (AnswersEnded chosen)
    pub writer_failed : IsTrue is_cut → Told remaining before after contents held holds (BeginsAnswering chosen has_ended)
    pub stream_failed : status ≡ 3 → IsTrue has_failed ⊎ IsTrue is_cut
    pub write_told : IsTrue is_cut → status ≡ 3
    pub read_told : IsTrue has_failed →
        (status ≡ 3) ⊎ ((status ≡ 1) × ((place : ℕ) × Told remaining before after contents held holds (HasBadByte chosen place)))
    pub limit : status < 5
    pub no_misuse : status ≢ 2
    pub unwritten : status ≡ 4 → holds ≡ held
    pub memory : status ≡ 4 → chosen ≡ Run
