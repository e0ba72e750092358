-- Digits that are gathered from trace text have its levels, and what is heard of them is heard of it.
use Rattle.std.proofs.Common.{◌≡◌, ℕ, ◌+◌, ◌≤◌, ◌<◌, ◌||◌, eqb, cond, ◌⊎◌, inl, inr, Bool, true, false, List, [], ◌∷◌, ◌++◌, length, map, zero, suc, take, drop, get_or, Option, refl, sym, ap, subst, ◌∙◌, append_assoc, arith}
use Rattle.std.proofs.Math.Seq.{take-add}
use Rattle.std.proofs.lemmas.Bool.{eqb-true, false≢true}
use Rattle.std.proofs.lemmas.List.{append-nil, drop_more, length-map, length-take-le, map-append, take-append-drop}
use Rattle.std.proofs.lemmas.Grind.{flat_map-append}
use Rattle.std.specs.List.{flat_map}
use Rattle.can_frame.specs.declared.level.Level.{Level}
use Rattle.can_frame.specs.declared.level.Level.TheVariants.{Dominant, Recessive}
use Rattle.can_frame.specs.Levels.{digit_of}
use Rattle.can_stream.proofs.PutParts.{TakesFront-longer}
use Rattle.can_stream.proofs.Elements.{AllByRecursion-append}
use Rattle.can_texts.specs.TraceText.{IsTraceText, is_skipped, is_trace_byte, levels_in, levels_of_byte}
use Rattle.can_texts.specs.Decoding.{AreDigits, FailsToHear, FailsToTell, Gathers, Hears, HearsText, StopsHearing}
use Rattle.can_texts.specs.Decoded.{finding_line}
use Rattle.can_stream.specs.Outbox.{TakesFront}
use Rattle.can_stream.specs.declared.fault.TraceFault.{TraceFault}
use Rattle.can_stream.specs.declared.fault.TraceFault.TheVariants.{BadByte, Write}
use Rattle.can_texts.specs.declared.traces.gathered.Gathered.{Gathered}
use Rattle.can_texts.specs.declared.traces.finding.Finding.{Finding}
use Rattle.can_texts.specs.declared.traces.trace.Trace.{Trace}
use Rattle.can_texts.proofs.DecodeSteps.{MeetsBadByte-here, Hears-then, HearsText-then, IsTraceText-digits, HearsText-next, StopsHearing-next, TakesFront-then, levels_in-append, levels_in-digits, length-levels_in}

abbrev digits_in : List ℕ → List ℕ
digits_in text = map digit_of (levels_in text)

pub digits_in-append : (xs ys : List ℕ) → digits_in (xs ++ ys) ≡ digits_in xs ++ digits_in ys
digits_in-append xs ys = ap (map digit_of) (levels_in-append xs ys) ∙ map-append digit_of (levels_in xs) (levels_in ys)

-- ---- one byte

module _ (byte : ℕ) where
  -- a digit is one of two
  pub by_digit : (P : ℕ → Type 0) → P 48 → P 49 → (eqb byte 48 || eqb byte 49) ≡ true → P byte
  by_digit P zero_is one_is = by (eqb byte 48) (eqb byte 49) refl refl
    where
      by : (a b : Bool) → eqb byte 48 ≡ a → eqb byte 49 ≡ b → (a || b) ≡ true → P byte
      by true b is48 is49 any = subst P (sym (eqb-true byte 48 is48)) zero_is
      by false true is48 is49 any = subst P (sym (eqb-true byte 49 is49)) one_is
      by false false is48 is49 none = absurd (false≢true none)

  pub AreDigits-one : (eqb byte 48 || eqb byte 49) ≡ true → AreDigits (byte ∷ [])
  AreDigits-one is = by_digit (λ b. AreDigits (b ∷ [])) refl refl is

-- ---- lists of bytes

pub AreDigits-text : (bytes : List ℕ) → AreDigits bytes → IsTraceText bytes
AreDigits-text bytes are = subst IsTraceText (sym are) (IsTraceText-digits (levels_in bytes))

pub AreDigits-append : (xs ys : List ℕ) → AreDigits xs → AreDigits ys → AreDigits (xs ++ ys)
AreDigits-append xs ys first more = (λ i. first i ++ more i) ∙ sym (digits_in-append xs ys)

pub IsTraceText-then : (bytes : List ℕ) (n k : ℕ) → IsTraceText (take n bytes) → IsTraceText (take k (drop n bytes)) → IsTraceText (take (n + k) bytes)
IsTraceText-then bytes n k first more =
    subst IsTraceText (sym (take-add n k bytes)) (AllByRecursion-append (λ byte. is_trace_byte byte ≡ true) (take n bytes) (take k (drop n bytes)) first more)

-- ---- what is gathered

-- the digits of more bytes
pub Gathers-more : (bytes old new : List ℕ) (g : Gathered) (n m : ℕ) → Gathers bytes g old → g.taken + n ≤ length bytes → IsTraceText (take n (drop g.taken bytes)) → m ≤ length new
    → take m new ≡ take g.count old ++ digits_in (take n (drop g.taken bytes)) → Gathers bytes (record { taken = g.taken + n; count = m }) new
Gathers-more bytes old new g n m is within text room put = record {
  within = within;
  room = room;
  text = IsTraceText-then bytes g.taken n is.text text;
  digits_are = put ∙ ap (λ t. t ++ digits_in (take n (drop g.taken bytes))) is.digits_are ∙ sym (digits_in-append (take g.taken bytes) (take n (drop g.taken bytes)))
      ∙ ap digits_in (sym (take-add g.taken n bytes));
}

module _ (bytes buffer : List ℕ) (g : Gathered) (is : Gathers bytes g buffer) where
  same_levels : levels_in (take g.count buffer) ≡ levels_in (take g.taken bytes)
  same_levels = ap levels_in is.digits_are ∙ levels_in-digits (levels_in (take g.taken bytes))

  pub gathered_digits : AreDigits (take g.count buffer)
  gathered_digits = is.digits_are ∙ ap (map digit_of) (sym same_levels)

  pub gathered_few : g.count ≤ g.taken
  gathered_few =
      omega (arith, ap length is.digits_are, length-map (levels_in (take g.taken bytes)) digit_of, length-levels_in (take g.taken bytes), length-take-le g.taken bytes is.within, length-take-le g.count buffer is.room)

-- the front of trace text that has the first of its levels
pub record FrontOf (text : List ℕ) (levels : List Level) : Type 0 where
  pub front : List ℕ
  pub rest : List ℕ
  pub parts : text ≡ front ++ rest
  pub has : levels_in front ≡ levels
  pub is_text : IsTraceText front

-- a byte has one level at most
one_or_none : (byte : ℕ) → (levels_of_byte byte ≡ []) ⊎ ((x : Level) × (levels_of_byte byte ≡ x ∷ []))
one_or_none byte = by (eqb byte 48) (eqb byte 49)
  where
    by : (b c : Bool) → (cond b (Dominant ∷ []) (cond c (Recessive ∷ []) []) ≡ []) ⊎ ((x : Level) × (cond b (Dominant ∷ []) (cond c (Recessive ∷ []) []) ≡ x ∷ []))
    by true c = inr (Dominant, refl)
    by false true = inr (Recessive, refl)
    by false false = inl refl

front_of : (text : List ℕ) (levels others : List Level) → IsTraceText text → levels_in text ≡ levels ++ others → FrontOf text levels
front_of text [] others is_text all = record { front = []; rest = text; parts = refl; has = refl; is_text = tt }
front_of [] (x ∷ levels) others is_text all = cc
front_of (byte ∷ text) (x ∷ levels) others is_text all =
    elim (one_or_none byte) [
      | inl none ↦
          let r = front_of text (x ∷ levels) others is_text.1 (sym (ap (λ t. t ++ levels_in text) none) ∙ all) in
          record {
            front = byte ∷ r.front;
            rest = r.rest;
            parts = ap (λ t. byte ∷ t) r.parts;
            has = ap (λ t. t ++ levels_in r.front) none ∙ r.has;
            is_text = (is_text.0, r.is_text);
          }
      | inr one ↦
          let same : one.0 ∷ levels_in text ≡ x ∷ (levels ++ others) = sym (ap (λ t. t ++ levels_in text) one.1) ∙ all in
          let r = front_of text levels others is_text.1 (ap (drop 1) same) in
          record {
            front = byte ∷ r.front;
            rest = r.rest;
            parts = ap (λ t. byte ∷ t) r.parts;
            has = ap (λ t. t ++ levels_in r.front) one.1 ∙ ap (λ y. get_or y 0 x ∷ levels_in r.front) same ∙ ap (λ t. x ∷ t) r.has;
            is_text = (is_text.0, r.is_text);
          }
    ]

-- ---- what is heard of gathered digits

module _ (bytes buffer : List ℕ) (g : Gathered) (is : Gathers bytes g buffer) (old new : Trace) (held holds : Option (List ℕ)) (waiting waiting_now : List ℕ) where
  pub HearsText-gathered : HearsText old new (take g.count buffer) held holds waiting waiting_now → HearsText old new (take g.taken bytes) held holds waiting waiting_now
  HearsText-gathered hears = record {
    found = hears.found;
    is_text = is.text;
    hears = subst (λ l. Hears old new l hears.found) (same_levels bytes buffer g is) hears.hears;
    passes = hears.passes;
  }

  FailsToTell-gathered : FailsToTell old new (take g.count buffer) held holds waiting → FailsToTell old new bytes held holds waiting
  FailsToTell-gathered fails =
      let split : levels_in (take g.taken bytes) ≡ levels_in fails.text ++ levels_in fails.others =
      sym (same_levels bytes buffer g is) ∙ ap levels_in fails.bytes_are ∙ levels_in-append fails.text fails.others in
      let r = front_of (take g.taken bytes) (levels_in fails.text) (levels_in fails.others) is.text split in
      record {
        text = r.front;
        others = r.rest ++ drop g.taken bytes;
        bytes_are = sym (take-append-drop g.taken bytes) ∙ ap (λ t. t ++ drop g.taken bytes) r.parts ∙ append_assoc r.front r.rest (drop g.taken bytes);
        found = fails.found;
        is_text = r.is_text;
        hears = subst (λ l. Hears old new l fails.found) (sym r.has) fails.hears;
        takes = fails.takes;
      }

  pub FailsToHear-gathered : (e : TraceFault) → FailsToHear e old new (take g.count buffer) held holds waiting waiting_now → FailsToHear e old new bytes held holds waiting waiting_now
  FailsToHear-gathered e fails = (fails.0, FailsToTell-gathered fails.1, fails.2)

-- ---- levels by their digits

pub digit_is : (level : Level) → (is_trace_byte (digit_of level) ≡ true) × (levels_of_byte (digit_of level) ≡ level ∷ [])
digit_is Dominant = (refl, refl)
digit_is Recessive = (refl, refl)

-- each of some digits is that of a level
pub digit_at : (bytes : List ℕ) (i : ℕ) → AreDigits bytes → i < length bytes → (level : Level) × (digit_of level ≡ get_or bytes i 0)
digit_at bytes i are within =
    let levels = levels_in bytes in
    let r = at levels i (omega (arith, within, ap length are, length-map levels digit_of)) in
    (r.0, r.1 ∙ ap (λ t. get_or t i 0) (sym are))
  where
    at : (levels : List Level) (k : ℕ) → k < length levels → (level : Level) × (digit_of level ≡ get_or (map digit_of levels) k 0)
    at [] k less = absurd (omega (arith, less))
    at (x ∷ levels) zero less = (x, refl)
    at (x ∷ levels) (suc k) less = at levels k (omega (arith, less))

module _ (byte : ℕ) where
  -- a byte that is the digit of no level
  pub no_level : ((level : Level) → digit_of level ≡ byte → ⊥) → levels_of_byte byte ≡ []
  no_level none = by (eqb byte 48) (eqb byte 49) refl refl
    where
      by : (b c : Bool) → eqb byte 48 ≡ b → eqb byte 49 ≡ c → cond b (Dominant ∷ []) (cond c (Recessive ∷ []) []) ≡ []
      by true c is48 is49 = absurd (none Dominant (sym (eqb-true byte 48 is48)))
      by false true is48 is49 = absurd (none Recessive (sym (eqb-true byte 49 is49)))
      by false false is48 is49 = refl

  -- it is not allowed in trace text, unless it is skipped
  pub no_trace_byte : levels_of_byte byte ≡ [] → is_skipped byte ≡ false → is_trace_byte byte ≡ false
  no_trace_byte none unskipped = by (eqb byte 48) (eqb byte 49) none
    where
      by : (b c : Bool) → cond b (Dominant ∷ []) (cond c (Recessive ∷ []) []) ≡ [] → (b || c || is_skipped byte) ≡ false
      by true c none = cc
      by false true none = cc
      by false false none = unskipped

-- digits that are decoded before one byte that is not a digit are all decoded
pub all_digits_heard : (digits : List ℕ) (n : ℕ) → AreDigits digits → n ≤ length digits → (n < length digits → levels_of_byte (get_or digits n 0) ≡ []) → n ≡ length digits
all_digits_heard digits n are within stops = omega (arith, within, not_before)
  where
    not_before : n < length digits → ⊥
    not_before before =
        let digit = digit_at digits n are before in
        let some : levels_of_byte (get_or digits n 0) ≡ digit.0 ∷ [] = subst (λ x. levels_of_byte x ≡ digit.0 ∷ []) digit.1 (digit_is digit.0).1 in
        let no : [] ≡ digit.0 ∷ [] = sym (stops before) ∙ some in
        cc

-- a level with a finding, if the writer fails
pub FailsToHear-found : (old new : Trace) (level : Level) (held holds : Option (List ℕ)) (waiting waiting_now : List ℕ) (finding : Finding) (e : TraceFault) → Hears old new (level ∷ []) (finding ∷ [])
    → TakesFront held holds waiting → waiting_now ≡ [] → e ≡ Write → FailsToHear e old new (digit_of level ∷ []) held holds waiting waiting_now
FailsToHear-found old new level held holds waiting waiting_now finding e hears front none is_write = (
  is_write,
  record {
    text = digit_of level ∷ [];
    others = [];
    bytes_are = refl;
    found = finding ∷ [];
    is_text = ((digit_is level).0, tt);
    hears = subst (λ l. Hears old new l (finding ∷ [])) (sym (append-nil (levels_of_byte (digit_of level)) ∙ (digit_is level).1)) hears;
    takes = TakesFront-longer held holds waiting (flat_map finding_line (finding ∷ [])) front;
  },
  none,
)

-- ---- bytes of a list, one part after another

-- bytes after the first ones were not all decoded
module _ (a b c : Trace) (bytes : List ℕ) (index : ℕ) (held between holds : Option (List ℕ)) (old mid new : List ℕ) (first : HearsText a b (take index bytes) held between old mid) where
  pub FailsToHear-behind : (e : TraceFault) → FailsToHear e b c (drop index bytes) between holds mid new → FailsToHear e a c bytes held holds old new
  FailsToHear-behind e fails =
      let text = take index bytes in
      let part = fails.1 in (
        fails.0,
        record {
          text = text ++ part.text;
          others = part.others;
          bytes_are = sym (take-append-drop index bytes) ∙ ap (λ t. text ++ t) part.bytes_are ∙ sym (append_assoc text part.text part.others);
          found = first.found ++ part.found;
          is_text = AllByRecursion-append (λ byte. is_trace_byte byte ≡ true) text part.text first.is_text part.is_text;
          hears = subst (λ l. Hears a c l (first.found ++ part.found)) (sym (levels_in-append text part.text))
              (Hears-then a b c (levels_in text) (levels_in part.text) first.found part.found first.hears part.hears);
          takes = subst (λ t. TakesFront held holds (old ++ t)) (sym (flat_map-append finding_line first.found part.found))
              (TakesFront-then held between holds old mid (flat_map finding_line first.found) (flat_map finding_line part.found) first.passes part.takes);
        },
        fails.2,
      )

  -- some more were heard
  pub HearsText-behind : (count : ℕ) → HearsText b c (take count (drop index bytes)) between holds mid new → HearsText a c (take (index + count) bytes) held holds old new
  HearsText-behind count more =
      subst (λ t. HearsText a c t held holds old new) (sym (take-add index count bytes))
      (HearsText-then a b c (take index bytes) (take count (drop index bytes)) held between holds old mid new first more)

-- what was not all heard, as a reason to stop
pub StopsHearing-failed : (e : TraceFault) (a c : Trace) (start : ℕ) (bytes : List ℕ) (held holds : Option (List ℕ)) (old new : List ℕ) → FailsToHear e a c bytes held holds old new
    → StopsHearing e a c start bytes held holds old new
StopsHearing-failed e a c start bytes held holds old new fails = subst (λ x. StopsHearing x a c start bytes held holds old new) (sym fails.0) (fails.1, fails.2)

-- the next one was heard
pub HearsText-digit : (a b c : Trace) (bytes : List ℕ) (index : ℕ) (held between : Option (List ℕ)) (old mid : List ℕ) → HearsText a b (take index bytes) held between old mid
    → (holds : Option (List ℕ)) (new : List ℕ) → index < length bytes → (level : Level) → digit_of level ≡ get_or bytes index 0
    → HearsText b c (digit_of level ∷ []) between holds mid new → HearsText a c (take (index + 1) bytes) held holds old new
HearsText-digit a b c bytes index held between old mid first holds new within level digit next =
    HearsText-next a b c bytes index held between old mid first holds new within (subst (λ x. HearsText b c (x ∷ []) between holds mid new) digit next)

-- the next one was not heard
pub FailsToHear-next : (a b c : Trace) (bytes : List ℕ) (index : ℕ) (held between : Option (List ℕ)) (old mid : List ℕ) → HearsText a b (take index bytes) held between old mid
    → (holds : Option (List ℕ)) (new : List ℕ) → index < length bytes → (e : TraceFault) (level : Level) → digit_of level ≡ get_or bytes index 0
    → FailsToHear e b c (digit_of level ∷ []) between holds mid new → FailsToHear e a c bytes held holds old new
FailsToHear-next a b c bytes index held between old mid first holds new within e level digit fails =
    let rest = drop (index + 1) bytes in
    let next : drop index bytes ≡ (digit_of level ∷ []) ++ rest = drop_more bytes index 0 within ∙ ap (λ x. x ∷ rest) (sym digit) in
    let part = fails.1 in
    FailsToHear-behind a b c bytes index held between holds old mid new first e (
      fails.0,
      record {
        text = part.text;
        others = part.others ++ rest;
        bytes_are = next ∙ ap (λ t. t ++ rest) part.bytes_are ∙ append_assoc part.text part.others rest;
        found = part.found;
        is_text = part.is_text;
        hears = part.hears;
        takes = part.takes;
      },
      fails.2,
    )

-- the next byte is bad
pub StopsHearing-bad : (a b : Trace) (bytes : List ℕ) (index : ℕ) (held between : Option (List ℕ)) (old mid : List ℕ) → HearsText a b (take index bytes) held between old mid
    → index < length bytes → (start : ℕ) → is_trace_byte (get_or bytes index 0) ≡ false → StopsHearing (BadByte (start + index)) a b start bytes held between old mid
StopsHearing-bad a b bytes index held between old mid first within start is_bad =
    StopsHearing-next a b b bytes index held between old mid first between mid within (BadByte (start + index)) start (MeetsBadByte-here b (start + index) (get_or bytes index 0) [] between mid is_bad)
