-- What is written piece by piece.
use Rattle.std.proofs.Common.{◌≡◌, ◌+◌, ◌++◌, ◌∷◌, [], true, List, ℕ, length, suc, subst, sym, ◌∙◌, ap, add-one, arith, append_assoc}
use Rattle.std.specs.Prelude.{Some}
use Rattle.std.specs.List.{flat_map}
use Rattle.std.proofs.lemmas.List.Concat.{flat_map-append}
use Rattle.can_gates.specs.declared.files.text.Text.{Text}
use Rattle.can_gates.specs.declared.files.words.Word.{Word}
use Rattle.can_gates.specs.declared.files.words.Bit.{Bit}
use Rattle.can_gates.specs.Names.{numbered}
use Rattle.can_gates.specs.Statements.{statement_text}
use Rattle.can_gates.specs.Texts.{Writes}
use Rattle.can_gates.specs.Verilog.{wires}

-- a piece before others
joined : {A : Type 0} (old mid new a b : List A) → mid ≡ old ++ a → new ≡ mid ++ b → new ≡ old ++ (a ++ b)
joined old mid new a b e1 e2 = e2 ∙ ap (λ s. s ++ b) e1 ∙ append_assoc old a b

pub written : (old mid new : Text) (a b : List ℕ) → Writes old mid a → Writes mid new b → Writes old new (a ++ b)
written old mid new a b first then = λ complete.
    let behind = then complete in
    let before = first behind.0 in (before.0, joined old.bytes.items mid.bytes.items new.bytes.items a b before.1 behind.1)

-- in a loop: if the text is complete after some pieces, it was complete at first, and with the rest it is the text with
-- all pieces
abbrev pub LeavesOf : List ℕ → List ℕ → Text → Text → Type 0
LeavesOf rest all old now = now.complete ≡ true → (old.complete ≡ true) × (now.bytes.items ++ rest ≡ old.bytes.items ++ all)

-- a literal's name after the previous ones
pub one_more : (w : Word) (n : ℕ) (old mid new : List Bit) → mid ≡ old ++ numbered w n → new ≡ mid ++ record { name = w.name; place = Some n } ∷ [] → new ≡ old ++ numbered w (n + 1)
one_more w n old mid new e1 e2 = rw (add-one n) (joined _ _ _ _ _ e1 e2)

-- the wires of names, and of others after these
wires_more : (s : ℕ) (a b : List Bit) → wires s (a ++ b) ≡ wires s a ++ wires (s + length a) b
wires_more s [] b = let all : s ≡ s + 0 = omega arith in ap (λ n. wires n b) all
wires_more s (bit ∷ a) b =
    let behind : s + 1 + length a ≡ s + suc (length a) = omega arith in ap (λ more. wires s (bit ∷ []) ++ more) (wires_more (s + 1) a b ∙ ap (λ n. wires (s + 1) a ++ wires n b) behind)

wires_in_two : (s : ℕ) (a b : List Bit) → flat_map statement_text (wires s (a ++ b)) ≡ flat_map statement_text (wires s a) ++ flat_map statement_text (wires (s + length a) b)
wires_in_two s a b = ap (flat_map statement_text) (wires_more s a b) ∙ flat_map-append statement_text (wires s a) (wires (s + length a) b)

-- the wires of inputs, and of registers after n of them
pub both_written : (old mid new : Text) (a b inputs registers : List Bit) (n : ℕ) → a ≡ inputs → b ≡ registers → n ≡ length inputs
    → Writes old mid (flat_map statement_text (wires 1 a)) → Writes mid new (flat_map statement_text (wires (1 + n) b)) → Writes old new (flat_map statement_text (wires 1 (inputs ++ registers)))
both_written old mid new a b inputs registers n ea eb en first then =
    let ins : Writes old mid (flat_map statement_text (wires 1 inputs)) = subst (λ l. Writes old mid (flat_map statement_text (wires 1 l))) ea first in
    let regs : Writes mid new (flat_map statement_text (wires (1 + n) registers)) = subst (λ l. Writes mid new (flat_map statement_text (wires (1 + n) l))) eb then in
    let behind : Writes mid new (flat_map statement_text (wires (1 + length inputs) registers)) = subst (λ k. Writes mid new (flat_map statement_text (wires (1 + k) registers))) en regs in
    subst (Writes old new) (sym (wires_in_two 1 inputs registers)) (written old mid new _ _ ins behind)
