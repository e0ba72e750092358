-- Trace text whose levels are written one by one.
use Rattle.std.proofs.Common.{◌≡◌, ℕ, ◌+◌, ◌<◌, ◌≤◌, false, Option, Some, None, IfSome, append_assoc, List, [], ◌∷◌, ◌++◌, length, take, drop, get_or, sym, ◌∙◌, ap, subst, arith}
use Rattle.std.proofs.lemmas.List.{drop_more, length-take-le, take-append-drop}
use Rattle.std.specs.Io.KnownBytes.{Appends, Consumes}
use Rattle.can_texts.specs.Decoded.{DecodesToBadByte}
use Rattle.can_texts.specs.TraceText.{IsFirstBadTraceByte, IsTraceText, is_trace_byte, levels_in}
use Rattle.can_page.specs.Codes.{level_codes}

-- the levels of the first bytes are written
pub record IsRead (text levels : List ℕ) (written index : ℕ) : Type 0 where
  pub text_is : IsTraceText (take index text)
  pub levels_are : take written levels ≡ level_codes (levels_in (take index text))
  pub within : written ≤ index

-- the first bad byte comes after those
pub bad_byte : (text levels : List ℕ) (written index : ℕ) → IsRead text levels written index → index < length text → is_trace_byte (get_or text index 0) ≡ false → IsFirstBadTraceByte text index
bad_byte text levels written index h l bad = record {
  before = take index text;
  bad = get_or text index 0;
  after = drop (index + 1) text;
  text_is = sym (take-append-drop index text) ∙ ap (λ t. take index text ++ t) (drop_more text index 0 l);
  good = h.text_is;
  is_bad = bad;
  place_is = sym (length-take-le index text (omega (arith, l)));
}

-- ---- what is decoded

-- the first bad byte of a front is that of the whole
bad_in_front : (place : ℕ) (front rest output : List ℕ) → DecodesToBadByte place front output → DecodesToBadByte place (front ++ rest) output
bad_in_front place front rest output d = record {
  bad = record {
    before = d.bad.before;
    bad = d.bad.bad;
    after = d.bad.after ++ rest;
    text_is = ap (λ t. t ++ rest) d.bad.text_is ∙ append_assoc d.bad.before (d.bad.bad ∷ d.bad.after) rest;
    good = d.bad.good;
    is_bad = d.bad.is_bad;
    place_is = d.bad.place_is;
  };
  decodes = d.decodes;
}

-- what was written for a text before its first bad byte, by a writer that was empty
pub bad_told : (has left held holds : Option (List ℕ)) (place : ℕ) (input output : List ℕ) → Consumes has left input → held ≡ Some [] → Appends held holds output
    → DecodesToBadByte place input output → IfSome has (λ text. IfSome holds (λ lines. DecodesToBadByte place text lines))
bad_told None left held holds place input output consumes empty appends decodes = tt
bad_told (Some text) None held holds place input output consumes empty appends decodes = absurd consumes
bad_told (Some text) (Some rest) held None place input output consumes empty appends decodes = absurd (subst (λ h. Appends h None output) empty appends)
bad_told (Some text) (Some rest) held (Some lines) place input output splits empty appends decodes =
    let lines_are : lines ≡ output = subst (λ h. Appends h (Some lines) output) empty appends in
    subst (DecodesToBadByte place text) (sym lines_are) (subst (λ t. DecodesToBadByte place t output) (sym splits) (bad_in_front place input rest output decodes))
