-- Reading a DLC in decimal.
use Rattle.std.proofs.Common.{◌≡◌, ◌≢◌, ℕ, ◌+◌, ◌-◌, ◌/◌, ◌%◌, ◌<◌, ◌≤◌, ◌==◌, Bool, true, false, cond, List, [], ◌∷◌, ◌++◌, length, get_or, take, drop, min, refl, sym, ◌∙◌, ap, subst, arith, length-append, inl, inr}
use Rattle.std.proofs.lemmas.List.{append-nil, take_more, take-append-drop, get_or-take, get_or-drop, get_or_append_left, length-drop}
use Rattle.std.proofs.lemmas.List.FromFn.{get_or-range_with_len}
use Rattle.std.specs.List.{range_with_len}
use Rattle.std.specs.Prelude.{codes}
use Rattle.std.proofs.lemmas.Bool.{cases_lt}
use Rattle.std.proofs.lemmas.Bool.Decides.{nat_tests}
use Rattle.hex.specs.Hex.{lower_digits}
use Rattle.can_frame.specs.Parts.{byte_count}
use Rattle.can_frame.specs.Text.{hex_digits, decimal_digits, blank}
use Rattle.can_frame.specs.TextParts.{dlc_spelling, IsDigit, IsHexNumber, IsDecimal, IsDlc, Leaves, LeavesPart, MostDigits, StandsAt}
use Rattle.can_frame.specs.declared.text.TextFaultKind.{TextFaultKind}
use Rattle.can_frame.specs.declared.text.TextFault.{TextFault}
use Rattle.can_frame.proofs.Leaving.{LeavesPart-behind, Leaves-some_lt}
use Rattle.can_frame.proofs.ReadDigits.{digit_is, digit_stands, StandsAt-append}

pub decimal_one : (n : ℕ) → n < 10 → decimal_digits n ≡ (48 + n) ∷ []
decimal_one n h = grind (arith, nat_tests)

pub decimal_two : (n : ℕ) → 10 ≤ n → decimal_digits n ≡ (48 + n / 10) ∷ (48 + n % 10) ∷ []
decimal_two n h = grind (arith, nat_tests)

-- a digit below ten
digit_below_ten : (d : ℕ) → d < 10 → get_or lower_digits d 0 ≡ 48 + d
digit_below_ten d h =
    get_or_append_left (range_with_len 48 10) (codes "abcdef") 0 d h ∙ get_or-range_with_len 48 10 d 0 h

pub hex_digits-one_decimal : (d : ℕ) → d < 10 → hex_digits 1 d ≡ decimal_digits d
hex_digits-one_decimal d h =
    digit_is d (omega arith) ∙ ap (λ b. b ∷ []) (digit_below_ten d h) ∙ sym (decimal_one d h)

pub decimal_stands_one : (text : List ℕ) (start d : ℕ) → d < 10 → StandsAt (hex_digits 1 d) text start (start + 1)
    → StandsAt (decimal_digits d) text start (start + 1)
decimal_stands_one text start d small s = subst (λ w. StandsAt w text start (start + 1)) (hex_digits-one_decimal d small) s

pub decimal_stands_two : (text : List ℕ) (start first second : ℕ) → first ≡ 1 → second < 6
    → StandsAt (hex_digits 1 first) text start (start + 1)
    → start + 1 < length text → IsDigit second (get_or text (start + 1) 0)
    → StandsAt (decimal_digits (10 + second)) text start (start + 2)
decimal_stands_two text start first second one small s within is =
    let both = StandsAt-append (hex_digits 1 first) (hex_digits 1 second) text start (start + 1) (start + 1 + 1) s
    (digit_stands text (start + 1) second within is) in
    let tens : (10 + second) / 10 ≡ first = omega arith in
    let units : (10 + second) % 10 ≡ second = omega arith in
    let shape : hex_digits 1 first ++ hex_digits 1 second ≡ decimal_digits (10 + second) =
    ap (λ t. t ++ hex_digits 1 second) (hex_digits-one_decimal first (omega arith) ∙ decimal_one first (omega arith))
    ∙ ap (λ t. (48 + first) ∷ t) (hex_digits-one_decimal second (omega arith) ∙ decimal_one second (omega arith))
    ∙ sym (decimal_two (10 + second) (omega arith) ∙ ap (λ (x : ℕ). (48 + x) ∷ (48 + (10 + second) % 10) ∷ []) tens
    ∙ ap (λ (x : ℕ). (48 + first) ∷ (48 + x) ∷ []) units) in
    let place : start + 1 + 1 ≡ start + 2 = omega arith in
    subst (λ p. StandsAt (decimal_digits (10 + second)) text start p) place
    (subst (λ w. StandsAt w text start (start + 1 + 1)) shape both)

-- a single digit is all that there is
pub most_one : (text : List ℕ) (start d : ℕ) → d < 10 → StandsAt (hex_digits 1 d) text start (start + 1)
    → (d ≡ 1 → (second : ℕ) → second < 6 → start + 1 < length text → IsDigit second (get_or text (start + 1) 0) → ⊥)
    → MostDigits d (drop start text)
most_one text start d small s short longer rest few e = elim (cases_lt longer 10) [
  | inl one ↦ omega (arith, ap length (decimal_one longer one), ap length (decimal_one d small))
  | inr two ↦
      let here : (48 + d) ∷ drop (start + 1) text ≡ (48 + longer / 10) ∷ (48 + longer % 10) ∷ rest =
      ap (λ t. t ++ drop (start + 1) text) (sym (hex_digits-one_decimal d small ∙ decimal_one d small)) ∙ sym s.spelt
      ∙ e ∙ ap (λ t. t ++ rest) (decimal_two longer two) in
      let first : 48 + d ≡ 48 + longer / 10 = ap (λ t. get_or t 0 0) here in
      let after : drop (start + 1) text ≡ (48 + longer % 10) ∷ rest = ap (drop 1) here in
      let byte : get_or text (start + 1) 0 ≡ 48 + longer % 10 =
      ap (λ i. get_or text i 0) (let z : start + 1 ≡ start + 1 + 0 = omega arith in z)
      ∙ sym (get_or-drop (start + 1) text 0 0) ∙ ap (λ t. get_or t 0 0) after in
      absurd (short (omega arith) (longer % 10) (omega arith) (omega (arith, ap length after, length-drop (start + 1) text))
      (omega arith, digit_below_ten (longer % 10) (omega arith) ∙ sym byte))
]

-- if a text leaves a first digit, it leaves a DLC's digits
pub decimal_leaves : (kind : TextFaultKind) (text : List ℕ) (start : ℕ) → start ≤ length text → (fault : TextFault)
    → LeavesPart kind (IsHexNumber 1 10) text start fault → LeavesPart kind IsDecimal text start fault
decimal_leaves kind text start fits fault l =
    LeavesPart-behind kind IsDecimal (IsHexNumber 1 10) text start 0 (omega arith) fill split fault
    (subst (λ p. LeavesPart kind (IsHexNumber 1 10) text p fault) (let e : start ≡ start + 0 = omega arith in e) l)
  where
    fill : (v : List ℕ) → IsHexNumber 1 10 v → (z : List ℕ) × IsDecimal (take 0 (drop start text) ++ (v ++ z))
    fill v n =
        let small : n.0 < 10 = omega (arith, n.1) in
        ([], (n.0, omega arith, sym (hex_digits-one_decimal n.0 small) ∙ n.2 ∙ sym (append-nil v)))

    split : (w rest : List ℕ) → IsDecimal w → take 0 (w ++ rest) ≡ take 0 (drop start text)
        → (v : List ℕ) × (z : List ℕ) × IsHexNumber 1 10 v × (drop 0 w ≡ v ++ z) × (0 ≤ length w)
    split w rest n same = elim (cases_lt n.0 10) [
      | inl one ↦ (
        hex_digits 1 n.0,
        [],
        (n.0, omega arith, refl),
        sym n.2 ∙ sym (hex_digits-one_decimal n.0 one)
            ∙ sym (append-nil (hex_digits 1 n.0)),
        omega arith,
      )
      | inr two ↦
          let tens : n.0 / 10 ≡ 1 = omega (arith, n.1) in
          let first : hex_digits 1 1 ≡ (48 + 1) ∷ [] = hex_digits-one_decimal 1 (omega arith) ∙ decimal_one 1 (omega arith) in
          let shape : w ≡ hex_digits 1 1 ++ (48 + n.0 % 10) ∷ [] =
          sym n.2 ∙ decimal_two n.0 two ∙ ap (λ (x : ℕ). (48 + x) ∷ (48 + n.0 % 10) ∷ []) tens
          ∙ ap (λ t. t ++ (48 + n.0 % 10) ∷ []) (sym first) in
          (hex_digits 1 1, (48 + n.0 % 10) ∷ [], (1, omega arith, refl), shape, omega arith)
    ]

-- if it leaves a DLC's digits, it leaves the DLC
pub dlc_leaves_digits : (kind : TextFaultKind) (remote : Bool) (text : List ℕ) (start : ℕ) → start ≤ length text
    → (fault : TextFault)
    → LeavesPart kind IsDecimal text start fault → LeavesPart kind (IsDlc remote) text start fault
dlc_leaves_digits kind remote text start fits fault l =
    LeavesPart-behind kind (IsDlc remote) IsDecimal text start 0 (omega arith)
    (λ v n. (behind n.0, (n.0, n.1, ap (λ t. t ++ behind n.0) n.2)))
    (λ w rest n same. (decimal_digits n.0, behind n.0, (n.0, n.1, refl), sym n.2, omega arith)) fault
    (subst (λ p. LeavesPart kind IsDecimal text p fault) (let e : start ≡ start + 0 = omega arith in e) l)
  where
    behind : ℕ → List ℕ
    behind n = cond (byte_count remote n == 0) [] blank

-- ---- the space after the DLC of a data frame

pub dlc_one : (n : ℕ) → 0 < n → n < 10 → dlc_spelling false n ≡ (48 + n) ∷ blank
dlc_one n some h = grind (arith, nat_tests)

pub dlc_two : (n : ℕ) → 10 ≤ n → dlc_spelling false n ≡ (48 + n / 10) ∷ (48 + n % 10) ∷ blank
dlc_two n h = grind (arith, nat_tests)

module _ (bytes : List ℕ) (d : ℕ) (some : 0 < d) (most : MostDigits d bytes) where
  -- every DLC that the bytes begin with continues differently from one digit
  each_one : d < 10 → take 1 bytes ≡ (48 + d) ∷ [] → (1 < length bytes → get_or bytes 1 0 ≢ 32)
      → (w rest : List ℕ) → IsDlc false w → take 1 (w ++ rest) ≡ take 1 bytes
      → (1 < length w) × (1 < length bytes → get_or w 1 0 ≢ get_or bytes 1 0)
  each_one one front other w rest n same =
      let e = n.0 in
      let first : get_or (w ++ rest) 0 0 ≡ 48 + d = sym (get_or-take 1 (w ++ rest) 0 0 (omega arith))
      ∙ ap (λ t. get_or t 0 0) (same ∙ front) in
      elim (cases_lt e 10) [
        | inl digit ↦ elim (cases_lt 0 e) [
          | inl positive ↦
              let shape : w ≡ (48 + e) ∷ blank = sym n.2 ∙ dlc_one e positive digit in
              (omega (arith, ap length shape), λ more q. other more (sym q ∙ ap (λ t. get_or t 1 0) shape))
          | inr none ↦
              let shape : w ≡ 48 ∷ [] = sym n.2 ∙ ap (dlc_spelling false) (let z : e ≡ 0 = omega arith in z) in
              absurd (omega (arith, first, ap (λ t. get_or (t ++ rest) 0 0) shape))
        ]
        | inr two ↦
            let shape : w ≡ (48 + e / 10) ∷ (48 + e % 10) ∷ blank = sym n.2 ∙ dlc_two e two in
            let tens : d ≡ e / 10 = omega (arith, first, ap (λ t. get_or (t ++ rest) 0 0) shape) in (
              omega (arith, ap length shape),
              λ more q.
                  let second : get_or bytes 1 0 ≡ 48 + e % 10 = sym q ∙ ap (λ t. get_or t 1 0) shape in
                  let whole : bytes ≡ decimal_digits e ++ drop 2 bytes =
                  sym (take-append-drop 2 bytes)
                  ∙ ap (λ t. t ++ drop 2 bytes) (take_more bytes 1 0 more ∙ ap (λ t. t ++ get_or bytes 1 0 ∷ []) front
                  ∙ ap (λ (x : ℕ). (48 + x) ∷ get_or bytes 1 0 ∷ []) tens ∙ ap (λ x. (48 + e / 10) ∷ x ∷ []) second
                  ∙ sym (decimal_two e two)) in
                  omega (arith, most e (drop 2 bytes) n.1 whole, ap length (decimal_one d one), ap length (decimal_two e two)),
            )
      ]

  each_two : 10 ≤ d → take 2 bytes ≡ (48 + d / 10) ∷ (48 + d % 10) ∷ [] → (2 < length bytes → get_or bytes 2 0 ≢ 32)
      → (w rest : List ℕ) → IsDlc false w → take 2 (w ++ rest) ≡ take 2 bytes
      → (2 < length w) × (2 < length bytes → get_or w 2 0 ≢ get_or bytes 2 0)
  each_two two front other w rest n same =
      let e = n.0 in
      let first : get_or (w ++ rest) 0 0 ≡ 48 + d / 10 = sym (get_or-take 2 (w ++ rest) 0 0 (omega arith))
      ∙ ap (λ t. get_or t 0 0) (same ∙ front) in
      let second : get_or (w ++ rest) 1 0 ≡ 48 + d % 10 = sym (get_or-take 2 (w ++ rest) 1 0 (omega arith))
      ∙ ap (λ t. get_or t 1 0) (same ∙ front) in
      elim (cases_lt e 10) [
        | inl digit ↦ elim (cases_lt 0 e) [
          | inl positive ↦
              let shape : w ≡ (48 + e) ∷ blank = sym n.2 ∙ dlc_one e positive digit in
              absurd (omega (arith, second, ap (λ t. get_or (t ++ rest) 1 0) shape))
          | inr none ↦
              let shape : w ≡ 48 ∷ [] = sym n.2 ∙ ap (dlc_spelling false) (let z : e ≡ 0 = omega arith in z) in
              absurd (omega (arith, first, ap (λ t. get_or (t ++ rest) 0 0) shape))
        ]
        | inr large ↦
            let shape : w ≡ (48 + e / 10) ∷ (48 + e % 10) ∷ blank = sym n.2 ∙ dlc_two e large in
            (omega (arith, ap length shape), λ more q. other more (sym q ∙ ap (λ t. get_or t 2 0) shape))
      ]

-- what follows from a missing space
blank_missing : (kind : TextFaultKind) (text : List ℕ) (place : ℕ) (fault : TextFault)
    → LeavesPart kind (λ w. blank ≡ w) text place fault
    → (fault.place ≡ place) × (place < length text → get_or text place 0 ≢ 32)
blank_missing kind text place fault l =
    let begun : place ≤ fault.place = l.begun in
    let here : fault.place ≡ place = omega
    (arith, Leaves-some_lt (λ w. blank ≡ w) (drop place text) (fault.place - place) l.leaves, ap length l.leaves.some.1) in
    let none : fault.place - place ≡ 0 = omega arith in
    let at : Leaves (λ w. blank ≡ w) (drop place text) 0 = subst (Leaves (λ w. blank ≡ w) (drop place text)) none l.leaves in
    let byte : get_or (drop place text) 0 0 ≡ get_or text place 0 = get_or-drop place text 0 0
    ∙ ap (λ i. get_or text i 0) (let e : place + 0 ≡ place = omega arith in e) in
    (here, λ more q. (at.each blank [] refl refl).1 (omega (arith, length-drop place text)) (sym q ∙ sym byte))

data_dlc_leaves : (kind : TextFaultKind) (text : List ℕ) (start end d : ℕ) → start ≤ length text → 0 < d → d < 16
    → StandsAt (decimal_digits d) text start end → MostDigits d (drop start text)
    → (fault : TextFault) → LeavesPart kind (λ w. blank ≡ w) text end fault → LeavesPart kind (IsDlc false) text start fault
data_dlc_leaves kind text start end d fits some small s most fault l =
    let bytes = drop start text in
    let within : end ≤ length text = s.within in
    let size : length bytes ≡ length (decimal_digits d) + length (drop end text) = ap length s.spelt
    ∙ length-append (decimal_digits d) (drop end text) in
    let missing = blank_missing kind text end fault l in
    let place : fault.place ≡ end = missing.0 in
    let byte : (n : ℕ) → end ≡ start + n → n < length bytes → get_or bytes n 0 ≢ 32 = λ n e more q.
    missing.1 (omega (arith, length-drop start text)) (ap (λ i. get_or text i 0) e ∙ sym (get_or-drop start text n 0) ∙ q) in
    let leaves : Leaves (IsDlc false) bytes (fault.place - start) = elim (cases_lt d 10) [
      | inl one ↦
          let after : end ≡ start + 1 = omega
          (arith, size, ap length (decimal_one d one), length-drop start text, length-drop end text) in
          let front : take 1 bytes ≡ (48 + d) ∷ [] = ap (take 1) (s.spelt ∙ ap (λ t. t ++ drop end text) (decimal_one d one)) in
          let n : 1 ≡ fault.place - start = omega arith in
          subst (Leaves (IsDlc false) bytes) n (record {
            within = omega (arith, size, ap length (decimal_one d one));
            some = (dlc_spelling false d, (d, small, refl), ap (take 1) (dlc_one d some one) ∙ sym front);
            each = each_one bytes d some most one front (byte 1 after);
          })
      | inr two ↦
          let after : end ≡ start + 2 = omega
          (arith, size, ap length (decimal_two d two), length-drop start text, length-drop end text) in
          let front : take 2 bytes ≡ (48 + d / 10) ∷ (48 + d % 10) ∷ [] = ap (take 2) (s.spelt
          ∙ ap (λ t. t ++ drop end text) (decimal_two d two)) in
          let n : 2 ≡ fault.place - start = omega arith in
          subst (Leaves (IsDlc false) bytes) n (record {
            within = omega (arith, size, ap length (decimal_two d two));
            some = (dlc_spelling false d, (d, small, refl), ap (take 2) (dlc_two d two) ∙ sym front);
            each = each_two bytes d some most two front (byte 2 after);
          })
    ] in
    record { kind = l.kind; begun = omega (arith, size, length-drop start text, length-drop end text); leaves = leaves }

pub dlc_leaves_blank : (kind : TextFaultKind) (remote : Bool) (text : List ℕ) (start end d : ℕ) → start ≤ length text
    → byte_count remote d ≢ 0 → d < 16
    → StandsAt (decimal_digits d) text start end → MostDigits d (drop start text)
    → (fault : TextFault) → LeavesPart kind (λ w. blank ≡ w) text end fault → LeavesPart kind (IsDlc remote) text start fault
dlc_leaves_blank kind true text start end d fits some = absurd (some refl)
dlc_leaves_blank kind false text start end d fits some = data_dlc_leaves kind text start end d fits (positive d some)
  where
    positive : (d : ℕ) → min d 8 ≢ 0 → 0 < d
    positive d h = omega arith
