-- Reading a frame's text part by part: what is known after each part, and the fault in each.
use Rattle.std.proofs.Common.{◌≡◌, ℕ, ◌+◌, ◌<◌, nat_lt, Bool, true, false, cond, List, ◌++◌, length, take, replicate, refl, sym, ◌∙◌, ap, subst, arith, append_assoc, length-append}
use Rattle.std.proofs.lemmas.List.{append_cancel_right, length-take-le, length-replicate}
use Rattle.std.proofs.lemmas.Bool.Decides.{nat_tests}
use Rattle.can_frame.specs.Ident.{Ident, IsIdent, ident_count}
use Rattle.can_frame.specs.Parts.{Parts, IsFrame, byte_count}
use Rattle.can_frame.specs.Text.{frame_text, letter_part, identifier_part, direction_part, dlc_part, data_part, part_at}
use Rattle.can_frame.specs.TextParts.{letter_spelling, identifier_spelling, dlc_spelling, IsLetter, IsIdentifier, IsDlc, LeavesPart, StandsAt}
use Rattle.can_frame.specs.declared.text.TextFaultKind.{TextFaultKind}
use Rattle.can_frame.specs.declared.text.TextFaultKind.TheVariants.{KindLetter, Identifier, DataOrRemote, Dlc, Data}
use Rattle.can_frame.specs.declared.text.TextFault.{TextFault}
use Rattle.can_frame.proofs.ReadParts.{zeros_are_bytes}
use Rattle.can_frame.proofs.TextFronts.{Refuses, Past, Past-step, Past-stop}
use Rattle.can_frame.proofs.PartsTold.{letter_part_is, letter_part_told, identifier_part_told, direction_part_is, direction_part_told, dlc_part_is}

-- what follows each part in a frame's text
abbrev pub after_direction : Parts → List ℕ
after_direction f = dlc_part f ++ data_part f

abbrev pub after_identifier : Parts → List ℕ
after_identifier f = direction_part f ++ after_direction f

abbrev pub after_letter : Parts → List ℕ
after_letter f = identifier_part f ++ after_identifier f

-- ---- the part in which a place lies

abbrev pub kind_in : List ℕ → List ℕ → List ℕ → List ℕ → ℕ → TextFaultKind
kind_in l i d c n =
    cond (nat_lt n (length l)) KindLetter
    (cond (nat_lt n (length (l ++ i))) Identifier
    (cond (nat_lt n (length (l ++ (i ++ d)))) DataOrRemote
    (cond (nat_lt n (length (l ++ (i ++ (d ++ c))))) Dlc Data)))

in_letter : (l i d c : List ℕ) (n : ℕ) → n < length l → KindLetter ≡ kind_in l i d c n
in_letter l i d c n h = grind (arith, nat_tests)

in_identifier : (l i d c : List ℕ) (n : ℕ) → n < length i → Identifier ≡ kind_in l i d c (length l + n)
in_identifier l i d c n h = grind (arith, nat_tests, length-append {A = ℕ})

in_direction : (l i d c : List ℕ) (n : ℕ) → n < length d → DataOrRemote ≡ kind_in l i d c (length (l ++ i) + n)
in_direction l i d c n h = grind (arith, nat_tests, length-append {A = ℕ})

in_dlc : (l i d c : List ℕ) (n : ℕ) → n < length c → Dlc ≡ kind_in l i d c (length (l ++ (i ++ d)) + n)
in_dlc l i d c n h = grind (arith, nat_tests, length-append {A = ℕ})

pub in_data : (l i d c : List ℕ) (n : ℕ) → Data ≡ kind_in l i d c (length (l ++ (i ++ (d ++ c))) + n)
in_data l i d c n = grind (arith, nat_tests, length-append {A = ℕ})

three_before : (l i d rest : List ℕ) → l ++ (i ++ (d ++ rest)) ≡ (l ++ (i ++ d)) ++ rest
three_before l i d rest = simp append_assoc

pub four_before : (l i d c rest : List ℕ) → l ++ (i ++ (d ++ (c ++ rest))) ≡ (l ++ (i ++ (d ++ c))) ++ rest
four_before l i d c rest = simp append_assoc

-- the place of a part is the length of the parts before it
pub before_size : (text : List ℕ) (place : ℕ) (Q : Parts → Type 0) (rest : Parts → List ℕ) → Past text place Q rest
    → (f : Parts) → IsFrame f → Q f → (before : List ℕ) → frame_text f ≡ before ++ rest f → place ≡ length before
before_size text place Q rest past f h q before e =
    let same = append_cancel_right before (take place text) (rest f) (sym e ∙ past.goes_on f h q) in
    sym (ap length same ∙ length-take-le place text past.within)

-- ---- frames with given parts

given : Ident → Bool → ℕ → Parts
given id remote dlc = record { id = id; remote = remote; dlc = dlc; bytes = replicate (byte_count remote dlc) 0 }

given_is_frame : (id : Ident) (remote : Bool) (dlc : ℕ) → IsIdent id → dlc < 16 → IsFrame (given id remote dlc)
unfolding given
given_is_frame id remote dlc h few = record {
  id = h;
  dlc = few;
  count = length-replicate (byte_count remote dlc) 0;
  small = zeros_are_bytes (byte_count remote dlc);
}

zero_is_ident : (b : Bool) → IsIdent (record { raw = 0; extended = b })
zero_is_ident true = omega arith
zero_is_ident false = omega arith

module _ (text : List ℕ) where
  -- ---- the kind letter

  past_start : Past text 0 (λ f. Unit {0}) (λ f. letter_part f ++ after_letter f)
  unfolding frame_text
  past_start = record { within = omega arith; goes_on = λ f h q. refl; only = λ f h e. tt }

  pub past_letter : (end : ℕ) (b : Bool) → StandsAt (letter_spelling 83 69 b) text 0 end
      → Past text end (λ f. f.id.extended ≡ b) after_letter
  past_letter end b s =
      Past-step text 0 (λ f. Unit {0}) letter_part after_letter past_start (letter_spelling 83 69 b) end s
      (λ f. f.id.extended ≡ b)
      (λ f h e. (tt, letter_part_is f ∙ ap (letter_spelling 83 69) e)) (λ f h q x y e. letter_part_told f b x y e)

  pub letter_fault : (fault : TextFault) → LeavesPart KindLetter (IsLetter 83 69) text 0 fault → Refuses text fault
  unfolding given part_at
  letter_fault fault =
      Past-stop text 0 (λ f. Unit {0}) letter_part after_letter past_start KindLetter (λ e. cc e) (IsLetter 83 69)
      (λ f h q. (f.id.extended, sym (letter_part_is f)))
      (λ w l.
      let f = given (record { raw = 0; extended = l.0 }) true 0 in (
        f,
        given_is_frame (record { raw = 0; extended = l.0 }) true 0 (zero_is_ident l.0) (omega arith),
        tt,
        letter_part_is f ∙ l.1,
      ))
      (λ f n h q inside. in_letter (letter_part f) (identifier_part f) (direction_part f) (dlc_part f) (0 + n)
      (omega arith)) fault

  -- ---- the identifier

  module _ (place : ℕ) (b : Bool) (past : Past text place (λ f. f.id.extended ≡ b) after_letter) where
    pub past_identifier : (end : ℕ) (id : Ident) → IsIdent id → id.extended ≡ b
        → StandsAt (identifier_spelling b id.raw) text place end
        → Past text end (λ f. f.id ≡ id) after_identifier
    past_identifier end id ident kind s =
        let small : id.raw < ident_count b = subst (λ c. id.raw < ident_count c) kind ident in
        let parts : record { raw = id.raw; extended = b } ≡ id = λ i. record { raw = id.raw; extended = sym kind i } in
        Past-step text place (λ f. f.id.extended ≡ b) identifier_part after_identifier past
        (identifier_spelling b id.raw) end s (λ f. f.id ≡ id)
        (λ f h e. (
          ap (λ t. t.extended) e ∙ kind,
          ap (λ t. identifier_spelling t.extended t.raw) e
              ∙ ap (λ c. identifier_spelling c id.raw) kind,
        ))
        (λ f h q x y e. identifier_part_told f b id.raw x y h.id small q e ∙ parts)

    pub identifier_fault : (fault : TextFault) → LeavesPart Identifier (IsIdentifier b) text place fault → Refuses text fault
    unfolding given part_at frame_text
    identifier_fault fault =
        Past-stop text place (λ f. f.id.extended ≡ b) identifier_part after_identifier past Identifier (λ e. cc e)
        (IsIdentifier b)
        (λ f h q. (f.id.raw, subst (λ c. f.id.raw < ident_count c) q h.id, ap (λ c. identifier_spelling c f.id.raw) (sym q)))
        (λ w l.
        let id : Ident = record { raw = l.0; extended = b } in
        (given id true 0, given_is_frame id true 0 l.1 (omega arith), refl, l.2))
        (λ f n h q inside.
        let size = before_size text place (λ f. f.id.extended ≡ b) after_letter past f h q (letter_part f) refl in
        in_identifier (letter_part f) (identifier_part f) (direction_part f) (dlc_part f) n inside
        ∙ ap (λ p. part_at f (p + n)) (sym size))
        fault

  -- ---- whether it is a data frame or a remote frame

  module _ (place : ℕ) (id : Ident) (ident : IsIdent id) (past : Past text place (λ f. f.id ≡ id) after_identifier) where
    pub past_direction : (end : ℕ) (r : Bool) → StandsAt (letter_spelling 68 82 r) text place end
        → Past text end (λ f. (f.id ≡ id) × (f.remote ≡ r)) after_direction
    past_direction end r s =
        Past-step text place (λ f. f.id ≡ id) direction_part after_direction past (letter_spelling 68 82 r) end s
        (λ f. (f.id ≡ id) × (f.remote ≡ r))
        (λ f h q. (q.0, direction_part_is f ∙ ap (letter_spelling 68 82) q.1))
        (λ f h q x y e. (q, direction_part_told f r x y e))

    pub direction_fault : (fault : TextFault) → LeavesPart DataOrRemote (IsLetter 68 82) text place fault → Refuses text fault
    unfolding given part_at frame_text
    direction_fault fault =
        Past-stop text place (λ f. f.id ≡ id) direction_part after_direction past DataOrRemote (λ e. cc e) (IsLetter 68 82)
        (λ f h q. (f.remote, sym (direction_part_is f)))
        (λ w l.
        let f = given id l.0 0 in
        (f, given_is_frame id l.0 0 ident (omega arith), refl, direction_part_is f ∙ l.1))
        (λ f n h q inside.
        let before = letter_part f ++ identifier_part f in
        let size = before_size text place (λ f. f.id ≡ id) after_identifier past f h q before
        (sym (append_assoc (letter_part f) (identifier_part f) (after_identifier f))) in
        in_direction (letter_part f) (identifier_part f) (direction_part f) (dlc_part f) n inside
        ∙ ap (λ p. part_at f (p + n)) (sym size))
        fault

  -- all parts before the DLC
  pub past_head : (b : Bool) (start : ℕ) → StandsAt (letter_spelling 83 69 b) text 0 start
      → (id : Ident) (middle : ℕ) → IsIdent id → id.extended ≡ b → StandsAt (identifier_spelling b id.raw) text start middle
      → (r : Bool) (end : ℕ) → StandsAt (letter_spelling 68 82 r) text middle end
      → Past text end (λ f. (f.id ≡ id) × (f.remote ≡ r)) after_direction
  past_head b start letter id middle ident kind digits r end direction =
      past_direction middle id ident (past_identifier start b (past_letter start b letter) middle id ident kind digits)
      end r direction

  -- ---- the DLC

  module _ (place : ℕ) (id : Ident) (ident : IsIdent id) (r : Bool)
      (past : Past text place (λ f. (f.id ≡ id) × (f.remote ≡ r)) after_direction) where
    pub dlc_fault : (fault : TextFault) → LeavesPart Dlc (IsDlc r) text place fault → Refuses text fault
    unfolding given part_at frame_text
    dlc_fault fault =
        Past-stop text place (λ f. (f.id ≡ id) × (f.remote ≡ r)) dlc_part data_part past Dlc (λ e. cc e) (IsDlc r)
        (λ f h q. (f.dlc, h.dlc, ap (λ c. dlc_spelling c f.dlc) (sym q.1) ∙ sym (dlc_part_is f h)))
        (λ w l.
        let f = given id r l.0 in
        let h = given_is_frame id r l.0 ident l.1 in
        (f, h, (refl, refl), dlc_part_is f h ∙ l.2))
        (λ f n h q inside.
        let before = letter_part f ++ (identifier_part f ++ direction_part f) in
        let shape = three_before (letter_part f) (identifier_part f) (direction_part f) (after_direction f) in
        let size = before_size text place (λ f. (f.id ≡ id) × (f.remote ≡ r)) after_direction past f h q before shape in
        in_dlc (letter_part f) (identifier_part f) (direction_part f) (dlc_part f) n inside
        ∙ ap (λ p. part_at f (p + n)) (sym size))
        fault
