-- The end of a frame's text: its data bytes, the bytes after it, and that it determines the whole
-- frame.
use Rattle.std.proofs.Common.{◌≡◌, ℕ, ◌+◌, ◌-◌, ◌<◌, ◌≤◌, Bool, true, false, List, [], ◌++◌, length, get_or, take, drop, min, refl, sym, ◌∙◌, ap, subst, arith, length-append, inl, inr}
use Rattle.std.proofs.Math.Seq.{take-add}
use Rattle.std.proofs.lemmas.Bool.{cases_lt}
use Rattle.std.proofs.lemmas.List.{append-nil, nil_from_length, length-drop, length-take, length-take-le, take_all, take_at, take-append-drop}
use Rattle.hex.specs.Hex.{encode_lower, IsBytes}
use Rattle.can_frame.specs.Ident.{Ident, IsIdent}
use Rattle.can_frame.specs.Parts.{Parts, IsFrame, byte_count}
use Rattle.can_frame.specs.Text.{frame_text, letter_part, identifier_part, direction_part, dlc_part, data_part, decimal_digits, part_at}
use Rattle.can_frame.specs.TextParts.{dlc_spelling, IsData, LeavesPart, MostDigits, StandsAt}
use Rattle.can_frame.specs.declared.text.TextFaultKind.TheVariants.{Data, Trailing}
use Rattle.can_frame.specs.declared.text.TextFault.{TextFault}
use Rattle.can_frame.proofs.HexDigits.{encode_lower-nil}
use Rattle.can_frame.proofs.Leaving.{Leaves-some_lt, agrees_less}
use Rattle.can_frame.proofs.Decimals.{decimal_one, decimal_two}
use Rattle.can_frame.proofs.TextFronts.{Refuses, Past, Past-step, Past-stop, goes_behind, trails}
use Rattle.can_frame.proofs.TextStages.{after_direction, before_size, four_before, in_data}
use Rattle.can_frame.proofs.PartsTold.{dlc_part_is, dlc_told, data_told}
use Rattle.can_frame.proofs.TextLengths.{length-decimal_digits}

-- the bytes before this place are the frame's text, and no frame's text continues with the next byte
pub record Ended (text : List ℕ) (end : ℕ) (f : Parts) : Type 0 where
  pub within : end ≤ length text
  pub frame : IsFrame f
  pub whole : frame_text f ≡ take end text
  pub apart : end < length text → (g : Parts) → IsFrame g → take (end + 1) (frame_text g) ≡ take (end + 1) text → ⊥

-- ---- a data frame

abbrev frame_with : Ident → ℕ → List ℕ → Parts
frame_with id d bytes = record { id = id; remote = false; dlc = d; bytes = bytes }

frame_with_is_frame : (id : Ident) (d : ℕ) (bytes : List ℕ) → IsIdent id → d < 16 → IsBytes bytes
    → length bytes ≡ min d 8 → IsFrame (frame_with id d bytes)
frame_with_is_frame id d bytes h few range size = record { id = h; dlc = few; count = size; small = range }

count_is : (f : Parts) (d : ℕ) → IsFrame f → f.remote ≡ false → f.dlc ≡ d → length f.bytes ≡ min d 8
count_is f d h r e = h.count ∙ ap (λ c. byte_count c f.dlc) r ∙ ap (λ n. min n 8) e

abbrev Known : Ident → ℕ → Parts → Type 0
Known id d f = (f.id ≡ id) × (f.remote ≡ false) × (f.dlc ≡ d)

module _ (text : List ℕ) (place : ℕ) (id : Ident) (ident : IsIdent id) (d : ℕ) (few : d < 16)
    (past : Past text place (λ f. (f.id ≡ id) × (f.remote ≡ false)) after_direction)
    (start : ℕ) (spelt : StandsAt (dlc_spelling false d) text place start) where
  past_dlc : Past text start (Known id d) data_part
  past_dlc =
      Past-step text place (λ f. (f.id ≡ id) × (f.remote ≡ false)) dlc_part data_part past (dlc_spelling false d)
      start spelt (Known id d)
      (λ f h q. ((q.0, q.1), dlc_part_is f h ∙ ap (λ c. dlc_spelling c f.dlc) q.1 ∙ ap (dlc_spelling false) q.2))
      (λ f h q x y e. (
        q.0,
        q.1,
        dlc_told f.dlc d x y h.dlc few
            (ap (λ t. t ++ x) (ap (λ c. dlc_spelling c f.dlc) (sym q.1) ∙ sym (dlc_part_is f h)) ∙ e),
      ))

  past_dlc_nil : Past text start (Known id d) (λ f. data_part f ++ [])
  past_dlc_nil = record {
    within = past_dlc.within;
    goes_on = λ f h q. past_dlc.goes_on f h q ∙ ap (λ t. take start text ++ t) (sym (append-nil (data_part f)));
    only = past_dlc.only;
  }

  data_fault : (fault : TextFault) → LeavesPart Data (IsData (min d 8)) text start fault → Refuses text fault
  unfolding frame_text part_at
  data_fault fault =
      Past-stop text start (Known id d) data_part (λ f. []) past_dlc_nil Data (λ e. cc e) (IsData (min d 8))
      (λ f h q. (f.bytes, h.small, count_is f d h q.1 q.2, refl))
      (λ w l. (frame_with id d l.0, frame_with_is_frame id d l.0 ident few l.1 l.2, (refl, refl, refl), l.3))
      (λ f n h q inside.
      let before = letter_part f ++ (identifier_part f ++ (direction_part f ++ dlc_part f)) in
      let shape = four_before (letter_part f) (identifier_part f) (direction_part f) (dlc_part f) (data_part f) in
      let size = before_size text start (Known id d) data_part past_dlc f h q before shape in
      in_data (letter_part f) (identifier_part f) (direction_part f) (dlc_part f) n ∙ ap (λ p. part_at f (p + n)) (sym size))
      fault

  data_ended : (bytes : List ℕ) → IsBytes bytes → length bytes ≡ min d 8 → (end : ℕ)
      → StandsAt (encode_lower bytes) text start end
      → Ended text end (frame_with id d bytes)
  data_ended bytes range size end s =
      let f = frame_with id d bytes in
      let is_frame = frame_with_is_frame id d bytes ident few range size in
      let all = Past-step text start (Known id d) data_part (λ g. []) past_dlc_nil (encode_lower bytes) end s (λ g. g ≡ f)
      (λ g h e. ((ap (λ t. t.id) e, ap (λ t. t.remote) e, ap (λ t. t.dlc) e), ap (λ t. encode_lower t.bytes) e))
      (λ g h q x y e.
      let same = data_told g.bytes bytes x y h.small range (count_is g d h q.1 q.2 ∙ sym size) e in
      λ i. record { id = q.0 i; remote = q.1 i; dlc = q.2 i; bytes = same i }) in
      let within : end ≤ length text = all.within in
      record {
        within = within;
        frame = is_frame;
        whole = all.goes_on f is_frame refl ∙ append-nil (take end text);
        apart = λ more g h e.
            let q = all.only g h (agrees_less end (end + 1) (frame_text g) text (omega arith) e) in
            omega (
              arith,
              ap length e,
              length-take (end + 1) (frame_text g),
              length-take-le (end + 1) text (omega arith),
              ap length (all.goes_on g h q),
              length-append (take end text) [],
              length-take-le end text within,
            );
      }

-- ---- a remote frame

encode_none : (bytes : List ℕ) → length bytes ≡ 0 → encode_lower bytes ≡ []
encode_none bytes none = ap encode_lower (nil_from_length bytes none) ∙ encode_lower-nil

pub remote_has_none : (f : Parts) → IsFrame f → f.remote ≡ true → length f.bytes ≡ 0
remote_has_none f h r = h.count ∙ ap (λ c. byte_count c f.dlc) r

-- its text ends with the DLC
pub remote_end : (f : Parts) → IsFrame f → f.remote ≡ true → after_direction f ≡ decimal_digits f.dlc
remote_end f h r =
    ap (λ t. dlc_part f ++ t) (encode_none f.bytes (remote_has_none f h r)) ∙ append-nil (dlc_part f) ∙ dlc_part_is f h
    ∙ ap (λ c. dlc_spelling c f.dlc) r ∙ append-nil (decimal_digits f.dlc)

digits_some : (d : ℕ) → 0 < length (decimal_digits d)
digits_some d = elim (cases_lt d 10) [
  | inl one ↦ omega (arith, ap length (decimal_one d one))
  | inr two ↦ omega (arith, ap length (decimal_two d two))
]

module _ (text : List ℕ) (place : ℕ) (id : Ident) (ident : IsIdent id) (d : ℕ) (few : d < 16)
    (past : Past text place (λ f. (f.id ≡ id) × (f.remote ≡ true)) after_direction)
    (end : ℕ) (spelt : StandsAt (dlc_spelling true d) text place end) (most : MostDigits d (drop place text)) where
  -- no frame's text goes on with the next byte, since its DLC would have more digits
  remote_apart : end ≡ place + length (decimal_digits d) → end < length text → (g : Parts) → IsFrame g
      → take (end + 1) (frame_text g) ≡ take (end + 1) text → ⊥
  remote_apart there more g h e =
      let n = length (decimal_digits d) in
      let after = drop place text in
      let next : end + 1 ≡ place + (n + 1) = omega arith in
      let b = goes_behind text place (λ f. (f.id ≡ id) × (f.remote ≡ true)) dlc_part data_part past (n + 1) g h
      (ap (λ m. take m (frame_text g)) (sym next) ∙ e ∙ ap (λ m. take m text) next) in
      let digits = decimal_digits g.dlc in
      let same : take (n + 1) digits ≡ take (n + 1) after = ap (take (n + 1)) (sym (remote_end g h b.0.1)) ∙ b.1 in
      let long : n + 1 ≤ length after = omega (arith, length-drop place text) in
      let size : length digits ≡ n + 1 =
      omega (
        arith,
        ap length same,
        length-take (n + 1) digits,
        length-take-le (n + 1) after long,
        length-decimal_digits g.dlc,
        digits_some d,
      ) in
      let front : after ≡ digits ++ drop (n + 1) after =
      sym (take-append-drop (n + 1) after)
      ∙ ap (λ t. t ++ drop (n + 1) after) (sym same ∙ take_all (n + 1) digits (omega arith)) in
      omega (arith, most g.dlc (drop (n + 1) after) h.dlc front)

  remote_ended : (bytes : List ℕ) → length bytes ≡ 0
      → Ended text end (record { id = id; remote = true; dlc = d; bytes = bytes })
  remote_ended bytes none =
      let f : Parts = record { id = id; remote = true; dlc = d; bytes = bytes } in
      let n = length (decimal_digits d) in
      let empty = nil_from_length bytes none in
      let is_frame : IsFrame f = record {
        id = ident;
        dlc = few;
        count = none;
        small = λ k. omega (arith, ap (λ t. get_or t k 0) empty);
      } in
      let within : place ≤ length text = past.within in
      let until : end ≤ length text = spelt.within in
      let digits : drop place text ≡ decimal_digits d ++ drop end text = spelt.spelt
      ∙ ap (λ t. t ++ drop end text) (append-nil (decimal_digits d)) in
      let there : end ≡ place + n = omega (
        arith,
        ap length digits,
        length-append (decimal_digits d) (drop end text),
        length-drop place text,
        length-drop end text,
      ) in
      let front : take end text ≡ take place text ++ decimal_digits d =
      ap (λ m. take m text) there ∙ take-add place n text
      ∙ ap (λ t. take place text ++ t) (ap (take n) digits ∙ take_at (decimal_digits d) (drop end text) n refl) in
      record {
        within = until;
        frame = is_frame;
        whole = past.goes_on f is_frame (refl, refl) ∙ ap (λ t. take place text ++ t) (remote_end f is_frame refl) ∙ sym front;
        apart = remote_apart there;
      }

-- ---- both

pub text_ended : (text : List ℕ) (place : ℕ) (id : Ident) (r : Bool) (d : ℕ) → IsIdent id → d < 16
    → Past text place (λ f. (f.id ≡ id) × (f.remote ≡ r)) after_direction
    → (start : ℕ) → StandsAt (dlc_spelling r d) text place start → MostDigits d (drop place text)
    → (bytes : List ℕ) → IsBytes bytes → length bytes ≡ byte_count r d → (end : ℕ)
    → StandsAt (encode_lower bytes) text start end
    → Ended text end (record { id = id; remote = r; dlc = d; bytes = bytes })
text_ended text place id false d ident few past start spelt most bytes range size end s = data_ended text place id ident
    d few past start spelt bytes range size end s
text_ended text place id true d ident few past start spelt most bytes range size end s =
    let e : start ≡ end =
    omega (
      arith,
      ap length s.spelt,
      ap length (encode_none bytes size),
      length-append (encode_lower bytes) (drop end text),
      length-drop start text,
      length-drop end text,
    ) in
    remote_ended text place id ident d few past end (subst (StandsAt (dlc_spelling true d) text place) e spelt) most bytes size

pub text_data_fault : (text : List ℕ) (place : ℕ) (id : Ident) (r : Bool) (d : ℕ) → IsIdent id → d < 16
    → Past text place (λ f. (f.id ≡ id) × (f.remote ≡ r)) after_direction
    → (start : ℕ) → StandsAt (dlc_spelling r d) text place start
    → (fault : TextFault) → LeavesPart Data (IsData (byte_count r d)) text start fault → Refuses text fault
text_data_fault text place id false d ident few past start spelt fault l = data_fault text place id ident d few past
    start spelt fault l
text_data_fault text place id true d ident few past start spelt fault l =
    let w = l.leaves.some in
    absurd (omega (
      arith,
      Leaves-some_lt (IsData 0) (drop start text) (fault.place - start) l.leaves,
      ap length (sym w.1.3 ∙ encode_none w.1.0 w.1.2),
    ))

-- bytes after a whole text trail it
pub text_trails : (text : List ℕ) (end : ℕ) (f : Parts) → Ended text end f → end < length text
    → Refuses text (record { kind = Trailing; place = end })
text_trails text end f e more = trails text end f more e.frame e.whole (e.apart more)

pub text_whole : (text : List ℕ) (end : ℕ) (f : Parts) → Ended text end f → length text ≤ end → frame_text f ≡ text
text_whole text end f e none = e.whole ∙ take_all end text none
