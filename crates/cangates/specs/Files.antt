-- What a run of `cangates` writes: a file of a controller's circuit. (docs/CIRCUIT.md)
use Rattle.std.specs.Prelude.{ℕ, ◌≡◌, ◌≢◌, ◌<◌, Bool, IsTrue, List, Option, None, Result, Ok, Err}
use Rattle.std.specs.Io.KnownBytes.{Appends, Keeps}
use Rattle.can_gates.specs.declared.literal.Literal.{Literal}
use Rattle.can_gates.specs.declared.register.Register.{Register}
use Rattle.can_gates.specs.Circuit.{CircuitParts}
use Rattle.can_gates.specs.declared.files.words.Names.{Names}
use Rattle.can_gates.specs.Verilog.{verilog_text}
use Rattle.can_gates.specs.Binary.{binary_text}
use Rattle.can_gates.specs.Named.{ascii_text}
use Rattle.can_gates.specs.Readable.{AreReadable}
use Rattle.can_gates_controller.specs.declared.design.Design.{Design}
use Rattle.can_gates_controller.specs.Runs.{HasPorts, IsController, Resets, RunsAlike, StartsIdle, StartsZero}
use Rattle.can_stream.specs.Outbox.{TakesFront}
use Rattle.can_stream.specs.declared.fault.TraceFault.{TraceFault}
use Rattle.can_stream.specs.declared.fault.TraceFault.TheVariants.{Write, Memory}
use Rattle.cangates.specs.declared.words.Form.{Form}
use Rattle.cangates.specs.declared.words.Form.TheVariants.{Verilog, Ascii, Binary}
use Rattle.cangates.specs.Ports.{IsNamed}

-- The text of a circuit in each form.
abbrev pub text_in : Form → Names → CircuitParts → List Register → List Literal → List ℕ
text_in Verilog n c registers outputs = verilog_text n c registers outputs
text_in Ascii n c registers outputs = ascii_text n c registers outputs
text_in Binary n c registers outputs = binary_text n c registers outputs

-- The text is that of a complete circuit. This circuit is the controller of can_mac: in the initial state, after a
-- reset, in each step and in each run. Inputs, registers and outputs have the names of Ports.antt, in their order, and
-- each a line with its meaning.
pub record IsFile (form : Form) (text : List ℕ) : Type 0 where
  pub names : Names
  pub design : Design
  pub complete : design.circuit.lack ≡ None
  pub zero : StartsZero design
  pub starts : StartsIdle design
  pub resets : Resets design
  pub steps : IsController design
  pub runs : RunsAlike design
  pub ports : HasPorts design
  pub named : IsNamed names design
  pub readable : AreReadable names
  pub is : text ≡ text_in form names design.circuit design.registers.items design.listed.items

-- What is written, for each outcome of the run. `held` and `holds` are what the writer has before and after it.
abbrev pub Does : Form → Option (List ℕ) → Option (List ℕ) → Result (Unit {0}) TraceFault → Type 0
Does form held holds (Ok done) = (text : List ℕ) × IsFile form text × Appends held holds text
Does form held holds (Err Write) = (text : List ℕ) × IsFile form text × TakesFront held holds text
Does form held holds (Err Memory) = Keeps held holds
Does form held holds (Err _) = ⊥

-- The status is 3 exactly if the writer failed. It is never 2, and below 5.
pub record TellsWriter (failed : Bool) (status : ℕ) : Type 0 where
  pub write_failed : status ≡ 3 → IsTrue failed
  pub write_told : IsTrue failed → status ≡ 3
  pub no_misuse : status ≢ 2
  pub known : status < 5
