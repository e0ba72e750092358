-- Names that are read back, by a test that computes.
use Rattle.std.proofs.Common.{◌≡◌, ◌≢◌, ◌&&◌, ℕ, ◌+◌, Bool, true, not, eqb, nat_lt, List, [], ◌∷◌, arith}
use Rattle.std.proofs.lemmas.Bool.{and_parts, eqb-false, ltb-true, not-true}
use Rattle.std.specs.List.{AllByRecursion}
use Rattle.can_gates.specs.declared.files.words.Word.{Word}
use Rattle.can_gates.specs.declared.files.words.Names.{Names}
use Rattle.can_gates.specs.Statements.{IsOneLine, IsName}
use Rattle.can_gates.specs.Readable.{AreReadable, IsReadable, is_width, names_of}

other : (c k : ℕ) → not (eqb c k) ≡ true → c ≢ k
other c k t = eqb-false c k (not-true (eqb c k) t)

abbrev is_name : List ℕ → Bool
is_name [] = true
is_name (c ∷ name) = not (eqb c 10) && (not (eqb c 32) && (not (eqb c 59) && is_name name))

pub name_tested : (name : List ℕ) → is_name name ≡ true → IsName name
name_tested [] t = tt
name_tested (c ∷ name) t =
    let line = and_parts (not (eqb c 10)) (not (eqb c 32) && (not (eqb c 59) && is_name name)) t in
    let blank = and_parts (not (eqb c 32)) (not (eqb c 59) && is_name name) line.1 in
    let semicolon = and_parts (not (eqb c 59)) (is_name name) blank.1 in (other c 10 line.0, other c 32 blank.0, other c 59 semicolon.0, name_tested name semicolon.1)

abbrev is_line : List ℕ → Bool
is_line [] = true
is_line (c ∷ line) = not (eqb c 10) && is_line line

pub line_tested : (line : List ℕ) → is_line line ≡ true → IsOneLine line
line_tested [] t = tt
line_tested (c ∷ line) t = let both = and_parts (not (eqb c 10)) (is_line line) t in (other c 10 both.0, line_tested line both.1)

abbrev is_readable : Word → Bool
is_readable w = is_name w.name.now && (not (is_width w.name.now) && (is_line w.meaning.now && (nat_lt 0 w.places && nat_lt w.places 4096)))

word_tested : (w : Word) → is_readable w ≡ true → IsReadable w
word_tested w t =
    let places = nat_lt 0 w.places && nat_lt w.places 4096 in
    let name = and_parts (is_name w.name.now) (not (is_width w.name.now) && (is_line w.meaning.now && places)) t in
    let width = and_parts (not (is_width w.name.now)) (is_line w.meaning.now && places) name.1 in
    let meaning = and_parts (is_line w.meaning.now) places width.1 in
    let size = and_parts (nat_lt 0 w.places) (nat_lt w.places 4096) meaning.1 in
    record {
      name = name_tested w.name.now name.0;
      no_width = not-true (is_width w.name.now) width.0;
      meaning = line_tested w.meaning.now meaning.0;
      some = ltb-true 0 w.places size.0;
      few = omega (arith, ltb-true w.places 4096 size.1);
    }

abbrev are_readable : List Word → Bool
are_readable [] = true
are_readable (w ∷ words) = is_readable w && are_readable words

words_tested : (words : List Word) → are_readable words ≡ true → AllByRecursion IsReadable words
words_tested [] t = tt
words_tested (w ∷ words) t = let both = and_parts (is_readable w) (are_readable words) t in (word_tested w both.0, words_tested words both.1)

abbrev pub names_readable : Names → Bool
names_readable n =
    is_name n.circuit.now && (is_line n.meaning.now && (are_readable n.inputs.now && (are_readable n.registers.now && (are_readable n.outputs.now && nat_lt (names_of n.inputs.now + names_of n.registers.now + names_of n.outputs.now) 4096))))

pub readable_names : (n : Names) → names_readable n ≡ true → AreReadable n
readable_names n t =
    let many = names_of n.inputs.now + names_of n.registers.now + names_of n.outputs.now in
    let circuit = and_parts (is_name n.circuit.now) (is_line n.meaning.now && (are_readable n.inputs.now && (are_readable n.registers.now && (are_readable n.outputs.now && nat_lt many 4096)))) t in
    let meaning = and_parts (is_line n.meaning.now) (are_readable n.inputs.now && (are_readable n.registers.now && (are_readable n.outputs.now && nat_lt many 4096))) circuit.1 in
    let inputs = and_parts (are_readable n.inputs.now) (are_readable n.registers.now && (are_readable n.outputs.now && nat_lt many 4096)) meaning.1 in
    let registers = and_parts (are_readable n.registers.now) (are_readable n.outputs.now && nat_lt many 4096) inputs.1 in
    let outputs = and_parts (are_readable n.outputs.now) (nat_lt many 4096) registers.1 in
    record {
      circuit = name_tested n.circuit.now circuit.0;
      meaning = line_tested n.meaning.now meaning.0;
      inputs = words_tested n.inputs.now inputs.0;
      registers = words_tested n.registers.now registers.0;
      outputs = words_tested n.outputs.now outputs.0;
      few = omega (arith, ltb-true many 4096 outputs.1);
    }
