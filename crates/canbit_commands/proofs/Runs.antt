-- What was read and written of a scenario that was run.
use Rattle.std.specs.Result.{IsErrOf}
use Rattle.std.proofs.Common.{◌≡◌, ◌⊎◌, inl, inr, refl, ap, subst, sym, append-nil, ℕ, Bool, List, [], Option, Some, None, Result, Ok, Err, IsTrue, OnOk, false}
use Rattle.std.specs.Prelude.{◌↔◌, IfErr}
use Rattle.std.specs.Io.KnownBytes.{Appends, Consumes, IsAtEnd}
use Rattle.can_stream.specs.Outbox.{TakesFront}
use Rattle.can_trace.specs.Report.{report}
use Rattle.can_scenario_text.specs.Scenarios.{IsFieldOrMemory, IsWrongScenarioField, IsScenarioText}
use Rattle.can_scenario_text.specs.declared.scenario.Scenario.{Scenario}
use Rattle.can_stream.specs.Told.{Told}
use Rattle.can_stream.specs.declared.fault.TraceFault.{TraceFault}
use Rattle.can_stream.specs.declared.fault.TraceFault.TheVariants.{ScenarioField, Read, Write, Memory}
use Rattle.can_stream.specs.declared.field.Field.{Field}
use Rattle.canbit_commands.proofs.Faults.{as-well, not-both-so, not-ok, unlike}
use Rattle.canbit_commands.specs.Answers.{RefusesScenario}
use Rattle.can_program.specs.Written.{WritesNothing}
use Rattle.canbit_commands.specs.Ends.{RunEnds}

took-nothing : (taken : Option (List ℕ)) → Appends taken taken []
took-nothing None = tt
took-nothing (Some bytes) = sym (append-nil bytes)

module _ {R W : Type 0} (remaining : R → Option (List ℕ)) (before after : R) (contents : W → Option (List ℕ)) (held holds : W) where
  -- an unchanged writer has no more than before
  silent : (Related : List ℕ → List ℕ → Type 0) (read : List ℕ) → Consumes (remaining before) (remaining after) read → holds ≡ held → Related read []
      → Told remaining before after contents held holds Related
  silent Related read consumes same related = record {
    input = read;
    output = [];
    consumes = consumes;
    appends = subst (λ w. Appends (contents held) (contents w) []) (sym same) (took-nothing (contents held));
    related = related;
  }

  module _ (has_ended has_failed is_cut : Bool) where
    abbrev Outcome : Result (Unit {0}) TraceFault → Type 0
    Outcome result = RunEnds remaining before after contents held holds has_ended has_failed is_cut result

    -- the text was not read to its end
    pub unread : {T : Type 0} (fault : TraceFault) → (fault ≡ Read) ⊎ (fault ≡ Memory) → ((bytes : List ℕ) × Consumes (remaining before) (remaining after) bytes)
        → (IsErrOf {T = T} (Err fault) Read ↔ IsTrue has_failed) → is_cut ≡ false → holds ≡ held → Outcome (Err fault)
    unread fault (inl is) part failed uncut same = record {
      ok = tt;
      field = λ wrong e. absurd (unlike is e refl);
      read = λ e. silent WritesNothing part.0 part.1 same refl;
      write = λ e. absurd (unlike is e refl);
      memory = λ e. same;
      no_byte = λ place e. unlike is e refl;
      no_line = λ n bad e. unlike is e refl;
      no_long = λ e. unlike is e refl;
      ended = tt;
      at_end = tt;
      field_ended = λ wrong e. absurd (unlike is e refl);
      write_ended = λ e. absurd (unlike is e refl);
      read_failed = (λ e. failed.0 (ap Err is), λ f. ap Err is);
      write_failed = (λ e. absurd (unlike is e refl), λ cut. absurd (not-both-so cut uncut));
    }
    unread fault (inr is) part failed uncut same = record {
      ok = tt;
      field = λ wrong e. absurd (unlike is e refl);
      read = λ e. absurd (unlike is e refl);
      write = λ e. absurd (unlike is e refl);
      memory = λ e. same;
      no_byte = λ place e. unlike is e refl;
      no_line = λ n bad e. unlike is e refl;
      no_long = λ e. unlike is e refl;
      ended = tt;
      at_end = tt;
      field_ended = λ wrong e. absurd (unlike is e refl);
      write_ended = λ e. absurd (unlike is e refl);
      read_failed = (λ e. absurd (unlike is e refl), λ f. absurd (unlike is (failed.1 f) refl));
      write_failed = (λ e. absurd (unlike is e refl), λ cut. absurd (not-both-so cut uncut));
    }

    module _ {T : Type 0} (whole : T) (failed : IsErrOf {T = T} (Ok whole) Read ↔ IsTrue has_failed) (read text : List ℕ) (consumes : Consumes (remaining before) (remaining after) read) (same : text ≡ read) (ended : IsTrue has_ended) where
      -- what was read is not a scenario, or memory ran out
      pub unsaid : {S : Type 0} (fault : TraceFault) → IsFieldOrMemory fault → ((wrong : Field) → IsErrOf {T = S} (Err fault) (ScenarioField wrong) → IsWrongScenarioField wrong text)
          → is_cut ≡ false → holds ≡ held → Outcome (Err fault)
      unsaid fault (inl is) first uncut kept = record {
        ok = tt;
        field = λ wrong e. silent (RefusesScenario wrong) read consumes kept (subst (IsWrongScenarioField wrong) same (first wrong (as-well e)), refl);
        read = λ e. absurd (unlike is.1 e refl);
        write = λ e. absurd (unlike is.1 e refl);
        memory = λ e. kept;
        no_byte = λ place e. unlike is.1 e refl;
        no_line = λ n bad e. unlike is.1 e refl;
        no_long = λ e. unlike is.1 e refl;
        ended = tt;
        at_end = tt;
        field_ended = λ wrong e. ended;
        write_ended = λ e. ended;
        read_failed = (λ e. absurd (unlike is.1 e refl), λ f. absurd (not-ok (failed.1 f)));
        write_failed = (λ e. absurd (unlike is.1 e refl), λ cut. absurd (not-both-so cut uncut));
      }
      unsaid fault (inr is) first uncut kept = record {
        ok = tt;
        field = λ wrong e. absurd (unlike is e refl);
        read = λ e. absurd (unlike is e refl);
        write = λ e. absurd (unlike is e refl);
        memory = λ e. kept;
        no_byte = λ place e. unlike is e refl;
        no_line = λ n bad e. unlike is e refl;
        no_long = λ e. unlike is e refl;
        ended = tt;
        at_end = tt;
        field_ended = λ wrong e. absurd (unlike is e refl);
        write_ended = λ e. absurd (unlike is e refl);
        read_failed = (λ e. absurd (unlike is e refl), λ f. absurd (not-ok (failed.1 f)));
        write_failed = (λ e. absurd (unlike is e refl), λ cut. absurd (not-both-so cut uncut));
      }

      module _ (scenario : Scenario) (says : IsScenarioText text scenario) where
        abbrev takes : Consumes (remaining before) (remaining after) text
        takes = subst (Consumes (remaining before) (remaining after)) (sym same) consumes

        -- the scenario was run, and its report written as far as the writer took it
        pub ran : (result : Result (Unit {0}) TraceFault) → IsAtEnd (remaining after)
            → OnOk result (Appends (contents held) (contents holds) (report scenario))
            → (IsErrOf result Write → TakesFront (contents held) (contents holds) (report scenario))
            → (IsErrOf result Memory → holds ≡ held)
            → IfErr result (λ fault. (fault ≡ Write) ⊎ (fault ≡ Memory))
            → (IsErrOf result Write ↔ IsTrue is_cut) → Outcome result
        ran (Ok done) at_end appends front kept other cut = record {
          ok = record { input = text; output = report scenario; consumes = takes; appends = appends; related = (scenario, says, refl) };
          field = λ wrong e. absurd (not-ok e);
          read = λ e. absurd (not-ok e);
          write = λ e. absurd (not-ok e);
          memory = λ e. kept e;
          no_byte = λ place e. not-ok e;
          no_line = λ n bad e. not-ok e;
          no_long = λ e. not-ok e;
          ended = ended;
          at_end = at_end;
          field_ended = λ wrong e. ended;
          write_ended = λ e. ended;
          read_failed = (λ e. absurd (not-ok e), λ f. absurd (not-ok (failed.1 f)));
          write_failed = cut;
        }
        ran (Err fault) at_end appends front kept (inl is) cut = record {
          ok = tt;
          field = λ wrong e. absurd (unlike is e refl);
          read = λ e. absurd (unlike is e refl);
          write = λ e.
              let taken = front e in
              record { input = text; output = taken.taken; consumes = takes; appends = taken.appends; related = record { answer = report scenario; is = (scenario, says, refl); rest = taken.left; all = taken.split } };
          memory = λ e. kept e;
          no_byte = λ place e. unlike is e refl;
          no_line = λ n bad e. unlike is e refl;
          no_long = λ e. unlike is e refl;
          ended = tt;
          at_end = tt;
          field_ended = λ wrong e. ended;
          write_ended = λ e. ended;
          read_failed = (λ e. absurd (unlike is e refl), λ f. absurd (not-ok (failed.1 f)));
          write_failed = cut;
        }
        ran (Err fault) at_end appends front kept (inr is) cut = record {
          ok = tt;
          field = λ wrong e. absurd (unlike is e refl);
          read = λ e. absurd (unlike is e refl);
          write = λ e. absurd (unlike is e refl);
          memory = λ e. kept e;
          no_byte = λ place e. unlike is e refl;
          no_line = λ n bad e. unlike is e refl;
          no_long = λ e. unlike is e refl;
          ended = tt;
          at_end = tt;
          field_ended = λ wrong e. ended;
          write_ended = λ e. ended;
          read_failed = (λ e. absurd (unlike is e refl), λ f. absurd (not-ok (failed.1 f)));
          write_failed = cut;
        }
