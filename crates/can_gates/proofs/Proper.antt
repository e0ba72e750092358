-- Readable names and small numbers make proper statements and symbols.
use Rattle.can_gates.specs.Circuit.{never}
use Rattle.std.proofs.Common.{ℕ, zero, suc, ◌+◌, ◌^◌, ◌<◌, if◌then◌else◌, Bool, true, false, eqb, List, [], ◌∷◌, ◌++◌, Some, None, length, map, decimal, codes, refl, sym, subst, arith, append-nil}
use Rattle.std.specs.Prelude.{slice_index_or}
use Rattle.std.specs.List.{flat_map, AllByRecursion}
use Rattle.can_gates.specs.declared.literal.Literal.{Literal}
use Rattle.can_gates.specs.declared.circuit.Gate.{Gate}
use Rattle.can_gates.specs.declared.register.Register.{Register}
use Rattle.can_gates.specs.Aiger.{gate_numbers, output_numbers, register_lines}
use Rattle.can_gates.specs.AigerNumbers.{AreLines}
use Rattle.can_gates.specs.declared.files.words.Word.{Word}
use Rattle.can_gates.specs.declared.files.words.Bit.{Bit}
use Rattle.can_gates.specs.Names.{bits_of_word, bit_text, numbered}
use Rattle.can_gates.specs.Named.{AreSymbols, symbols}
use Rattle.can_gates.specs.Binary.{register_numbers}
use Rattle.can_gates.specs.Statements.{And, AreProper, IsName}
use Rattle.can_gates.specs.Verilog.{assigns, next_of, takes, wires}
use Rattle.can_gates.specs.Readable.{IsReadable}
use Rattle.can_gates.proofs.Tested.{name_tested}
use Rattle.can_gates.proofs.Reading.{decimal_name, joined_names}

pub all_joined : {X : Type 0} (P : X → Type 0) (a b : List X) → AllByRecursion P a → AllByRecursion P b → AllByRecursion P (a ++ b)
all_joined P [] b first second = second
all_joined P (x ∷ a) b first second = (first.0, all_joined P a b first.1 second)

-- ---- names

abbrev pub IsBit : Bit → Type 0
IsBit b = IsName (bit_text b)

place_name : (w : Word) (p : ℕ) → IsName w.name.now → p < 2 ^ 64 → IsName (w.name.now ++ (codes "[" ++ (decimal p ++ codes "]")))
place_name w p is small =
    joined_names w.name.now (codes "[" ++ (decimal p ++ codes "]")) is
    (joined_names (codes "[") (decimal p ++ codes "]") (name_tested (codes "[") refl) (joined_names (decimal p) (codes "]") (decimal_name p small) (name_tested (codes "]") refl)))

numbered_names : (w : Word) (n : ℕ) → IsName w.name.now → n < 2 ^ 64 → AllByRecursion IsBit (numbered w n)
numbered_names w zero is small = tt
numbered_names w (suc n) is small =
    all_joined IsBit (numbered w n) (record { name = w.name; place = Some n } ∷ []) (numbered_names w n is (omega (arith, small))) (place_name w n is (omega (arith, small)), tt)

word_names : (w : Word) → IsReadable w → AllByRecursion IsBit (bits_of_word w)
word_names w is = by (eqb w.places 1)
  where
    by : (alone : Bool) → AllByRecursion IsBit (if alone then record { name = w.name; place = None } ∷ [] else numbered w w.places)
    by true = (subst IsName (sym (append-nil w.name.now)) is.name, tt)
    by false = numbered_names w w.places is.name is.few

pub names_are : (words : List Word) → AllByRecursion IsReadable words → AllByRecursion IsBit (flat_map bits_of_word words)
names_are [] are = tt
names_are (w ∷ words) are = all_joined IsBit (bits_of_word w) (flat_map bits_of_word words) (word_names w are.0) (names_are words are.1)

pub symbols_are : (kind : List ℕ) (p : ℕ) (bits : List Bit) → IsName kind → AllByRecursion IsBit bits → p + length bits < 2 ^ 64 → AreSymbols (symbols kind p bits)
symbols_are kind p [] known are few = tt
symbols_are kind p (b ∷ bits) known are few = (known, omega (arith, few), are.0, symbols_are kind (p + 1) bits known are.1 (omega (arith, few)))

pub wires_are : (s : ℕ) (bits : List Bit) → AllByRecursion IsBit bits → s + length bits < 2 ^ 64 → AreProper (wires s bits)
wires_are s [] are few = tt
wires_are s (b ∷ bits) are few = ((omega (arith, few), are.0), wires_are (s + 1) bits are.1 (omega (arith, few)))

-- ---- numbers

pub lines_apart : (a b : List (List ℕ)) → AreLines (a ++ b) → AreLines a × AreLines b
lines_apart [] b are = (tt, are)
lines_apart (l ∷ a) b are = let both = lines_apart a b are.1 in ((are.0, both.0), both.1)

pub gates_are : (gates : List Gate) → AreLines (map gate_numbers gates) → AreProper (map And gates)
gates_are [] are = tt
gates_are (g ∷ gates) are = ((omega (arith, are.0.0), omega (arith, are.0.1.0), omega (arith, are.0.1.1.0)), gates_are gates are.1)

output_small : (outputs : List Literal) (p : ℕ) → AreLines (map output_numbers outputs) → (slice_index_or outputs p never).signal < 2 ^ 64
output_small [] p are = omega arith
output_small (l ∷ outputs) zero are = omega (arith, are.0.0)
output_small (l ∷ outputs) (suc p) are = output_small outputs p are.1

pub assigns_are : (p : ℕ) (bits : List Bit) (outputs : List Literal) → AllByRecursion IsBit bits → AreLines (map output_numbers outputs) → AreProper (assigns p bits outputs)
assigns_are p [] outputs names are = tt
assigns_are p (b ∷ bits) outputs names are = ((names.0, output_small outputs p are), assigns_are (p + 1) bits outputs names.1 are)

register_small : (s : ℕ) (registers : List Register) (p : ℕ) → AreLines (register_lines s registers) → (next_of registers p).signal < 2 ^ 64
register_small s [] p are = omega arith
register_small s (r ∷ registers) zero are = omega (arith, are.0.1.0)
register_small s (r ∷ registers) (suc p) are = register_small (s + 1) registers p are.1

pub takes_are : (p s : ℕ) (bits : List Bit) (registers : List Register) → AllByRecursion IsBit bits → AreLines (register_lines s registers) → AreProper (takes p bits registers)
takes_are p s [] registers names are = tt
takes_are p s (b ∷ bits) registers names are = ((names.0, register_small s registers p are), takes_are (p + 1) s bits registers names.1 are)

-- the lines of registers without their own signals
pub registers_are : (s : ℕ) (registers : List Register) → AreLines (register_lines s registers) → AreLines (map register_numbers registers)
registers_are s [] are = tt
registers_are s (r ∷ registers) are = (are.0.1, registers_are (s + 1) registers are.1)
