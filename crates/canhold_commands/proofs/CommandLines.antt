-- Lines that are commands: their lengths, and what their digits mean.
use Rattle.std.proofs.Common.{◌≡◌, ℕ, ◌≤◌, ◌<◌, ◌==◌, true, false, ◌||◌, ◌≢◌, Bor, Some, None, MatchOption, Result, Ok, Err, OnOk, List, [], ◌∷◌, ◌++◌, length, map, take, Option, ◌⊎◌, refl, ap, sym, subst, ◌∙◌, inl, inr, codes, arith, eqb-true}
use Rattle.std.proofs.lemmas.List.{length-append, length-map, length-take, take_all}
use Rattle.std.proofs.lemmas.Bool.{and_from, and_parts, cases_lt, false≢true, or_cases}
use Rattle.std.specs.List.{list_all}
use Rattle.can_frame.proofs.TextLengths.{length-frame_text}
use Rattle.can_terms.specs.declared.script.Start.{Start}
use Rattle.can_terms.specs.declared.script.Start.TheVariants.{Idle, Joining}
use Rattle.can_terms.specs.declared.script.TesterLevel.{TesterLevel}
use Rattle.can_terms.specs.declared.script.TesterLevel.TheVariants.{Dominant, Recessive, Forced}
use Rattle.can_node.specs.Ports.{PortState}
use Rattle.canhold_commands.specs.Commands.{Command, begins, offers, wishes, plays, ends, is_tester_digit, quit_line, start_part, tester_digit, tester_of, IsCaseLine, IsCommandLine, IsPlayLine}
use Rattle.canhold_commands.specs.Adapters.{answer_to, behind_command, IsAnswered}

-- ---- digits

pub digit-said : (byte : ℕ) → is_tester_digit byte ≡ true → tester_digit (tester_of byte) ≡ byte
digit-said byte is = by_cases (or_cases (byte == 48) _ is)
  where
    by_digit : (digit : ℕ) → byte ≡ digit → tester_digit (tester_of digit) ≡ digit → tester_digit (tester_of byte) ≡ byte
    by_digit digit same said = subst (λ b. tester_digit (tester_of b) ≡ b) (sym same) said

    by_cases : ((byte == 48) ≡ true) ⊎ (((byte == 49) || (byte == 102)) ≡ true) → tester_digit (tester_of byte) ≡ byte
    by_cases (inl dominant) = by_digit 48 (eqb-true _ _ dominant) refl
    by_cases (inr other) = elim (or_cases (byte == 49) _ other) [ inl one ↦ by_digit 49 (eqb-true _ _ one) refl | inr forced ↦ by_digit 102 (eqb-true _ _ forced) refl ]

pub digits-said : (bytes : List ℕ) → list_all is_tester_digit bytes ≡ true → map tester_digit (map tester_of bytes) ≡ bytes
digits-said [] are = refl
digits-said (byte ∷ bytes) are =
    let parts = and_parts (is_tester_digit byte) (list_all is_tester_digit bytes) are in
    ap (λ b. b ∷ map tester_digit (map tester_of bytes)) (digit-said byte parts.0) ∙ ap (λ bs. byte ∷ bs) (digits-said bytes parts.1)

digit-is : (x : TesterLevel) → is_tester_digit (tester_digit x) ≡ true
digit-is Dominant = refl
digit-is Recessive = refl
digit-is Forced = refl

pub digits-are : (levels : List TesterLevel) → list_all is_tester_digit (map tester_digit levels) ≡ true
digits-are [] = refl
digits-are (x ∷ levels) = and_from _ _ (digit-is x) (digits-are levels)

-- ---- lengths

pub command-short : (line : List ℕ) (c : Command) → IsCommandLine line c → length line ≤ 4101
command-short line (begins Idle) is = omega (arith, is.short, length-append is.name (codes " idle"), ap length is.text)
command-short line (begins Joining) is = omega (arith, is.short, length-append is.name (codes " joining"), ap length is.text)
command-short line (offers f) is = omega (arith, length-frame_text f is.frame, ap length is.text)
command-short line (wishes n) is = omega (arith, ap length is.text)
command-short line (plays levels) is = omega (arith, is.few, length-map levels tester_digit, ap length is.text)
command-short line ends is = omega (arith, ap length is)

-- ---- cases

-- what is between `case ` and the ending is the name
pub name-from : (line ending rest : List ℕ) (r : Option (Bor (List ℕ))) → line ≡ codes "case " ++ rest → MatchOption r ((front : List ℕ) → rest ≢ front ++ ending) (λ x. rest ≡ x.now ++ ending)
    → MatchOption r ((name : List ℕ) → line ≢ codes "case " ++ (name ++ ending)) (λ name. line ≡ codes "case " ++ (name.now ++ ending))
name-from line ending rest None starts none = λ name is.
    let same : codes "case " ++ rest ≡ codes "case " ++ (name ++ ending) = sym starts ∙ is in
    none name (cc)
name-from line ending rest (Some x) starts is = starts ∙ ap (λ t. codes "case " ++ t) is

-- names of one line have one length
pub case_length : (line ending name : List ℕ) → line ≡ codes "case " ++ (name ++ ending) → (is : IsCaseLine line ending) → length name ≡ length is.name
case_length line ending name starts is = omega (arith, length-append name ending, length-append is.name ending, ap length (sym starts ∙ is.text))

pub no_start : (line : List ℕ) → (IsCaseLine line (codes " idle") → ⊥) → (IsCaseLine line (codes " joining") → ⊥) → (start : Start) → IsCaseLine line (start_part start) → ⊥
no_start line no_idle no_joining Idle is = no_idle is
no_start line no_idle no_joining Joining is = no_joining is

-- ---- bit times

pub play_empty : (line digits : List ℕ) → line ≡ codes "play " ++ digits → length digits ≡ 0 → (levels : List TesterLevel) → IsPlayLine line levels → ⊥
play_empty line digits starts none levels is = absurd (omega (arith, none, is.some, length-map levels tester_digit, ap length (sym starts ∙ is.text)))

pub play_long : (line digits : List ℕ) → line ≡ codes "play " ++ digits → 4096 < length digits → (levels : List TesterLevel) → IsPlayLine line levels → ⊥
play_long line digits starts long levels is = absurd (omega (arith, long, is.few, length-map levels tester_digit, ap length (sym starts ∙ is.text)))

pub play_other : (line digits : List ℕ) → line ≡ codes "play " ++ digits → list_all is_tester_digit digits ≡ false → (levels : List TesterLevel) → IsPlayLine line levels → ⊥
play_other line digits starts other levels is =
    let same : codes "play " ++ digits ≡ codes "play " ++ map tester_digit levels = sym starts ∙ is.text in
    let digits_are : digits ≡ map tester_digit levels = cc in
    false≢true (sym other ∙ ap (list_all is_tester_digit) digits_are ∙ digits-are levels)

pub play_found : (line digits : List ℕ) → line ≡ codes "play " ++ digits → 1 ≤ length digits → length digits ≤ 4096 → list_all is_tester_digit digits ≡ true
    → IsPlayLine line (map tester_of digits)
play_found line digits starts some few are = record {
  some = omega (arith, some, length-map digits tester_of);
  few = omega (arith, few, length-map digits tester_of);
  text = starts ∙ ap (λ t. codes "play " ++ t) (sym (digits-said digits are));
}

-- ---- a line is one command, or none

-- a command is executed
pub step-done : {E : Type 0} (r : Result (Unit {0}) E) (line : List ℕ) (before : Option PortState) (cleared out : List ℕ) (after : Option PortState) (command : Command)
    → IsCommandLine line command → cleared ≡ [] → OnOk r (out ≡ cleared ++ answer_to command before) → OnOk r (after ≡ behind_command command before) → OnOk r (IsAnswered line before out after)
step-done (Ok done) line before cleared out after command asked empty text port =
    inl (record { command = command; asked = asked; text = text ∙ ap (λ t. t ++ answer_to command before) empty; port = port })
step-done (Err e) line before cleared out after command asked empty text port = tt

-- ---- the kept prefix of a line

-- a prefix that is shorter than what is kept is the line
pub line_from_front : (line : List ℕ) → length (take 4102 line) ≤ 4101 → take 4102 line ≡ line
line_from_front line short = take_all 4102 line (omega (arith, length-take 4102 line))

-- the line is `quit` if its kept prefix is
pub quit_from_front : (line : List ℕ) → take 4102 line ≡ quit_line → line ≡ quit_line
quit_from_front line is = sym (line_from_front line (omega (arith, ap length is))) ∙ is

-- a line has the reply of its prefix
pub IsAnswered-front : (line : List ℕ) (before : Option PortState) (answer : List ℕ) (after : Option PortState) → IsAnswered (take 4102 line) before answer after → IsAnswered line before answer after
IsAnswered-front line before answer after (inl done) =
    subst (λ l. IsAnswered l before answer after) (line_from_front line (command-short (take 4102 line) done.command done.asked)) (inl done)
IsAnswered-front line before answer after (inr none) = by_length (cases_lt 4102 (length line))
  where
    by_length : (4102 < length line) ⊎ (length line ≤ 4102) → IsAnswered line before answer after
    by_length (inl longer) = inr (record {
      unknown = λ c is. absurd (omega (arith, command-short line c is, longer));
      no_quit = λ is. absurd (omega (arith, ap length is, longer));
      text = none.text;
      port = none.port;
    })
    by_length (inr within) = subst (λ l. IsAnswered l before answer after) (take_all 4102 line within) (inr none)
