-- What is written of a file, for each outcome.
use Rattle.std.proofs.Common.{refl, sym, subst, arith}
use Rattle.std.proofs.lemmas.Bool.{both_ways}
use Rattle.std.specs.Prelude.{◌≡◌, ℕ, Bool, false, List, Option, Some, None, Result, Ok, Err, is_err, OnOk, OnErr, IfErr}
use Rattle.std.specs.Io.KnownBytes.{Appends}
use Rattle.can_stream.specs.Outbox.{TakesFront}
use Rattle.can_stream.specs.declared.fault.TraceFault.{TraceFault}
use Rattle.can_stream.specs.declared.fault.TraceFault.TheVariants.{Write, Memory}
use Rattle.can_program.specs.Status.{exit_status, stream_status}
use Rattle.cangates.specs.declared.words.Form.{Form}
use Rattle.cangates.specs.Files.{IsFile, Does, TellsWriter}

pub written : (form : Form) (held holds : Option (List ℕ)) (text : List ℕ) (r : Result (Unit {0}) TraceFault) → IsFile form text → OnOk r (Appends held holds text) → OnErr r (TakesFront held holds text) → IfErr r (λ e. e ≡ Write) → Does form held holds r
written form held holds text (Ok done) is ok err fault = (text, is, ok)
written form held holds text (Err e) is ok err fault = subst (λ (f : TraceFault). Does form held holds (Err f)) (sym fault) (text, is, err)

pub unwritten : (form : Form) (held : Option (List ℕ)) → Does form held held (Err Memory)
unwritten form None = tt
unwritten form (Some bytes) = refl

pub told : (failed : Bool) (r : Result (Unit {0}) TraceFault) → failed ≡ is_err r → IfErr r (λ e. e ≡ Write) → TellsWriter failed (exit_status stream_status r)
told failed (Ok done) is fault = record { write_failed = λ e. absurd (omega (arith, e)); write_told = λ t. absurd (both_ways failed is t); no_misuse = λ e. absurd (omega (arith, e)); known = omega arith }
told failed (Err e) is fault =
    subst (λ (f : TraceFault). TellsWriter failed (stream_status f)) (sym fault) (record { write_failed = λ _. is; write_told = λ _. refl; no_misuse = λ e. absurd (omega (arith, e)); known = omega arith })

pub untold : (failed : Bool) → failed ≡ false → TellsWriter failed (exit_status stream_status (Err Memory))
untold failed is = record { write_failed = λ e. absurd (omega (arith, e)); write_told = λ t. absurd (both_ways failed is t); no_misuse = λ e. absurd (omega (arith, e)); known = omega arith }
