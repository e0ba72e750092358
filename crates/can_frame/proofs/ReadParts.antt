-- Reading the parts of a frame's text that hold a letter, an identifier or data bytes.
use Rattle.std.proofs.Common.{◌≡◌, ◌≢◌, ℕ, zero, suc, ◌+◌, ◌-◌, ◌*◌, ◌^◌, ◌<◌, ◌≤◌, Bool, true, false, cond, List, [], ◌∷◌, ◌++◌, length, get_or, take, drop, replicate, refl, sym, ◌∙◌, ap, subst, arith, length-append, inl, inr, ◌⊎◌}
use Rattle.std.proofs.lemmas.List.{append-nil, drop_more, drop_at, take_at, take-append-drop, length-take-le, length-replicate}
use Rattle.hex.specs.Hex.{encode_lower, lower_digits, IsBytes}
use Rattle.hex.proofs.HexLemmas.{length-encode_with}
use Rattle.can_frame.specs.Ident.{ident_count}
use Rattle.can_frame.specs.Text.{blank, hex_digits, identifier_digits}
use Rattle.can_frame.specs.TextParts.{letter_spelling, IsLetter, IsHexNumber, IsIdentifier, IsData, LeavesPart, StandsAt}
use Rattle.can_frame.specs.declared.text.TextFaultKind.{TextFaultKind}
use Rattle.can_frame.specs.declared.text.TextFault.{TextFault}
use Rattle.can_frame.proofs.HexDigits.{length-hex_digits, encode_lower-append, encode_lower-cons, encode_lower-nil}
use Rattle.can_frame.proofs.ReadDigits.{StandsAt-append}
use Rattle.can_frame.proofs.Leaving.{LeavesPart-first, LeavesPart-behind}

-- ---- a letter

first_of_two : (first second byte : ℕ) (is_second : Bool) → cond is_second second first ≡ byte
    → (byte ≡ first) ⊎ (byte ≡ second)
first_of_two first second byte true e = inr (sym e)
first_of_two first second byte false e = inl (sym e)

-- another byte than the two letters
pub letter_leaves_first : (kind : TextFaultKind) (first second : ℕ) (text : List ℕ) (start : ℕ) → start ≤ length text
    → (start < length text → get_or text start 0 ≢ first) → (start < length text → get_or text start 0 ≢ second)
    → LeavesPart kind (IsLetter first second) text start (record { kind = kind; place = start })
letter_leaves_first kind first second text start fits a b =
    LeavesPart-first kind (IsLetter first second) text start fits (letter_spelling first second false) (false, refl)
    (λ v l. (
      omega (arith, ap length l.1),
      λ more q. elim (first_of_two first second (get_or text start 0) l.0 (ap (λ t. get_or t 0 0) l.1 ∙ q)) [
        | inl e ↦ a more e
        | inr e ↦ b more e
      ],
    ))

-- no space after a letter
pub letter_leaves_blank : (kind : TextFaultKind) (first second : ℕ) (text : List ℕ) (start : ℕ) → start < length text
    → (is_second : Bool) → get_or text start 0 ≡ cond is_second second first
    → (fault : TextFault) → LeavesPart kind (λ w. blank ≡ w) text (start + 1) fault
    → LeavesPart kind (IsLetter first second) text start fault
letter_leaves_blank kind first second text start within is_second letter fault =
    let here : take 1 (drop start text) ≡ cond is_second second first ∷ [] = ap (take 1) (drop_more text start 0 within)
    ∙ ap (λ b. b ∷ []) letter in
    LeavesPart-behind kind (IsLetter first second) (λ w. blank ≡ w) text start 1 (omega arith)
    (λ v e. (
      [],
      (
        is_second,
        ap (λ t. cond is_second second first ∷ t) (e ∙ sym (append-nil v))
            ∙ ap (λ t. t ++ (v ++ [])) (sym here),
      ),
    ))
    (λ w rest l same. (blank, [], refl, ap (drop 1) (sym l.1), omega (arith, ap length l.1)))
    fault

-- ---- an identifier

pub identifier_leaves_number : (kind : TextFaultKind) (extended : Bool) (text : List ℕ) (start limit : ℕ) → start ≤ length text
    → limit * 16 ^ (identifier_digits extended - 1) ≡ ident_count extended
    → (fault : TextFault) → LeavesPart kind (IsHexNumber (identifier_digits extended) limit) text start fault
    → LeavesPart kind (IsIdentifier extended) text start fault
identifier_leaves_number kind extended text start limit fits bound fault l =
    let k = identifier_digits extended in
    LeavesPart-behind kind (IsIdentifier extended) (IsHexNumber k limit) text start 0 (omega arith)
    (λ v n. (blank, (n.0, subst (λ b. n.0 < b) bound n.1, ap (λ t. t ++ blank) n.2)))
    (λ w rest n same. (hex_digits k n.0, blank, (n.0, subst (λ b. n.0 < b) (sym bound) n.1, refl), sym n.2, omega arith)) fault
    (subst (λ p. LeavesPart kind (IsHexNumber k limit) text p fault) (let e : start ≡ start + 0 = omega arith in e) l)

pub identifier_leaves_blank : (kind : TextFaultKind) (extended : Bool) (text : List ℕ) (start raw : ℕ)
    → raw < ident_count extended
    → StandsAt (hex_digits (identifier_digits extended) raw) text start (start + identifier_digits extended)
    → (fault : TextFault) → LeavesPart kind (λ w. blank ≡ w) text (start + identifier_digits extended) fault
    → LeavesPart kind (IsIdentifier extended) text start fault
identifier_leaves_blank kind extended text start raw small s fault =
    let k = identifier_digits extended in
    let front : take k (drop start text) ≡ hex_digits k raw =
    ap (take k) s.spelt ∙ take_at (hex_digits k raw) (drop (start + k) text) k (length-hex_digits k raw) in
    LeavesPart-behind kind (IsIdentifier extended) (λ w. blank ≡ w) text start k s.within
    (λ v e. ([], (raw, small, ap (λ t. hex_digits k raw ++ t) (e ∙ sym (append-nil v)) ∙ ap (λ t. t ++ (v ++ [])) (sym front))))
    (λ w rest n same. (
      blank,
      [],
      refl,
      ap (drop k) (sym n.2) ∙ drop_at (hex_digits k n.0) blank k (length-hex_digits k n.0),
      omega (arith, ap length n.2, length-append (hex_digits k n.0) blank, length-hex_digits k n.0),
    ))
    fault

-- ---- data bytes

IsBytes-append : (xs ys : List ℕ) → IsBytes xs → IsBytes ys → IsBytes (xs ++ ys)
IsBytes-append [] ys h g i = g i
IsBytes-append (x ∷ xs) ys h g zero = h 0
IsBytes-append (x ∷ xs) ys h g (suc i) = IsBytes-append xs ys (λ k. h (suc k)) g i

IsBytes-cons : (x : ℕ) (xs : List ℕ) → x < 256 → IsBytes xs → IsBytes (x ∷ xs)
IsBytes-cons x xs h g zero = h
IsBytes-cons x xs h g (suc i) = g i

pub zeros_are_bytes : (n : ℕ) → IsBytes (replicate n 0)
zeros_are_bytes zero i = omega arith
zeros_are_bytes (suc n) zero = omega arith
zeros_are_bytes (suc n) (suc i) = zeros_are_bytes n i

length-encode_lower : (bytes : List ℕ) → length (encode_lower bytes) ≡ 2 * length bytes
length-encode_lower bytes = length-encode_with lower_digits bytes

-- n data bytes are read between these places
pub record ReadBytes (text : List ℕ) (start n place : ℕ) (bytes : List ℕ) : Type 0 where
  pub size : length bytes ≡ n
  pub next : place ≡ start + 2 * n
  pub range : IsBytes bytes
  pub stands : StandsAt (encode_lower bytes) text start place

pub ReadBytes-none : (text : List ℕ) (start : ℕ) (bytes : List ℕ) → start ≤ length text → bytes ≡ []
    → ReadBytes text start 0 start bytes
ReadBytes-none text start bytes fits none =
    subst (ReadBytes text start 0 start) (sym none) (record {
      size = refl;
      next = omega arith;
      range = λ i. omega arith;
      stands = record { within = fits; spelt = ap (λ t. t ++ drop start text) (sym encode_lower-nil) };
    })

-- one more byte
pub ReadBytes-more : (text : List ℕ) (start n place b : ℕ) (bytes more : List ℕ) → ReadBytes text start n place bytes → b < 256
    → StandsAt (hex_digits 2 b) text place (place + 2) → more ≡ bytes ++ b ∷ [] → ReadBytes text start (n + 1) (place + 2) more
ReadBytes-more text start n place b bytes more r small s grown =
    let shape : encode_lower (bytes ++ b ∷ []) ≡ encode_lower bytes ++ hex_digits 2 b =
    encode_lower-append bytes (b ∷ [])
    ∙ ap (λ t. encode_lower bytes ++ t) (encode_lower-cons b [] small ∙ ap (λ t. hex_digits 2 b ++ t) encode_lower-nil
    ∙ append-nil (hex_digits 2 b)) in
    subst (ReadBytes text start (n + 1) (place + 2)) (sym grown) (record {
      size = omega (arith, length-append bytes (b ∷ []), r.size);
      next = omega (arith, r.next);
      range = IsBytes-append bytes (b ∷ []) r.range (IsBytes-cons b [] small (λ i. omega arith));
      stands = subst (λ w. StandsAt w text start (place + 2)) (sym shape)
          (StandsAt-append (encode_lower bytes) (hex_digits 2 b) text start place (place + 2) r.stands s);
    })

module _ (text : List ℕ) (start count i place : ℕ) (read : List ℕ) (r : ReadBytes text start i place read)
    (more : i < count) where
  front : take (2 * i) (drop start text) ≡ encode_lower read
  front =
      ap (take (2 * i)) r.stands.spelt
      ∙ take_at (encode_lower read) (drop place text) (2 * i) (length-encode_lower read ∙ ap (λ n. 2 * n) r.size)

  fill : (v : List ℕ) → IsHexNumber 2 16 v → (z : List ℕ) × IsData count (take (2 * i) (drop start text) ++ (v ++ z))
  fill v n =
      let rest : List ℕ = replicate (count - i - 1) 0 in
      let small : n.0 < 256 = omega (arith, n.1) in
      let size : length (read ++ n.0 ∷ rest) ≡ count = omega
      (arith, r.size, length-append read (n.0 ∷ rest), length-replicate {A = ℕ} (count - i - 1) 0) in
      let spelt : encode_lower (read ++ n.0 ∷ rest) ≡ take (2 * i) (drop start text) ++ (v ++ encode_lower rest) =
      encode_lower-append read (n.0 ∷ rest)
      ∙ ap (λ t. encode_lower read ++ t) (encode_lower-cons n.0 rest small ∙ ap (λ t. t ++ encode_lower rest) n.2)
      ∙ ap (λ t. t ++ (v ++ encode_lower rest)) (sym front) in (
        encode_lower rest,
        (
          read ++ n.0 ∷ rest,
          IsBytes-append read (n.0 ∷ rest) r.range (IsBytes-cons n.0 rest small (zeros_are_bytes (count - i - 1))),
          size,
          spelt,
        ),
      )

  split : (w rest : List ℕ) → IsData count w → take (2 * i) (w ++ rest) ≡ take (2 * i) (drop start text)
      → (v : List ℕ) × (z : List ℕ) × IsHexNumber 2 16 v × (drop (2 * i) w ≡ v ++ z) × (2 * i ≤ length w)
  split w rest bytes same =
      let all = bytes.0 in
      let b = get_or all i 0 in
      let small : b < 16 * 16 ^ 1 = bytes.1 i in
      let within : i < length all = omega (arith, bytes.2) in
      let shape : all ≡ take i all ++ b ∷ drop (i + 1) all = sym (take-append-drop i all)
      ∙ ap (λ t. take i all ++ t) (drop_more all i 0 within) in
      let text_is : w ≡ encode_lower (take i all) ++ (hex_digits 2 b ++ encode_lower (drop (i + 1) all)) =
      sym bytes.3 ∙ ap encode_lower shape ∙ encode_lower-append (take i all) (b ∷ drop (i + 1) all)
      ∙ ap (λ t. encode_lower (take i all) ++ t) (encode_lower-cons b (drop (i + 1) all) (bytes.1 i)) in
      let size : length (encode_lower (take i all)) ≡ 2 * i = omega
      (arith, length-encode_lower (take i all), length-take-le i all (omega arith)) in (
        hex_digits 2 b,
        encode_lower (drop (i + 1) all),
        (b, small, refl),
        ap (drop (2 * i)) text_is ∙ drop_at (encode_lower (take i all)) _ (2 * i) size,
        omega (arith, ap length bytes.3, length-encode_lower all, bytes.2),
      )

  -- if the text leaves the next byte, it leaves the data
  pub data_leaves : (kind : TextFaultKind) (fault : TextFault) → LeavesPart kind (IsHexNumber 2 16) text place fault
      → LeavesPart kind (IsData count) text start fault
  data_leaves kind fault l =
      LeavesPart-behind kind (IsData count) (IsHexNumber 2 16) text start (2 * i) (omega (arith, r.next, r.stands.within))
      fill split fault
      (subst (λ p. LeavesPart kind (IsHexNumber 2 16) text p fault) r.next l)
