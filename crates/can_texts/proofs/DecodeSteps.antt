-- The steps of hearing bytes: their levels are heard, and the lines of what is found go through the buffer to the writer.
use Rattle.std.proofs.Common.{◌≡◌, ℕ, ◌+◌, ◌≤◌, ◌<◌, nat_eq, cond, Bool, true, false, List, [], ◌∷◌, ◌++◌, length, map, replicate, zero, suc, take, drop, get_or, Option, refl, sym, ap, subst, ◌∙◌, append_assoc, arith, length-append}
use Rattle.std.proofs.lemmas.List.{append-nil, take_more, take-append-drop, length-take}
use Rattle.std.proofs.Math.Seq.{take-add}
use Rattle.std.proofs.lemmas.Grind.{flat_map-append}
use Rattle.std.proofs.KnownBytes.{Appends-trans}
use Rattle.std.specs.List.{flat_map}
use Rattle.can_frame.specs.declared.level.Level.{Level}
use Rattle.can_frame.specs.declared.level.Level.TheVariants.{Dominant, Recessive}
use Rattle.can_stream.specs.Outbox.{PassesOn, TakesFront}
use Rattle.can_frame.specs.Levels.{digit_of}
use Rattle.can_texts.specs.TraceText.{IsTraceText, is_trace_byte, levels_in, levels_of_byte}
use Rattle.can_texts.specs.Decoded.{finding_line}
use Rattle.can_texts.specs.Decoding.{Hearing, Hears, HearsText, FailsToTell, MeetsBadByte, StopsHearing}
use Rattle.can_stream.specs.declared.fault.TraceFault.{TraceFault}
use Rattle.can_stream.specs.declared.fault.TraceFault.TheVariants.{BadByte, Read, Write, Long, FrameLine, ScenarioField, Memory}
use Rattle.can_texts.specs.declared.traces.finding.Finding.{Finding}
use Rattle.can_texts.specs.declared.traces.trace.Trace.{Trace}
use Rattle.can_stream.proofs.Elements.{AllByRecursion-append}
use Rattle.can_stream.proofs.Turns.{PassesOn-none}

-- ---- through the buffer

pub PassesOn-then : (held between holds : Option (List ℕ)) (old mid new put more : List ℕ) → PassesOn held between old mid put → PassesOn between holds mid new more
    → PassesOn held holds old new (put ++ more)
PassesOn-then held between holds old mid new put more first second = record {
  taken = first.taken ++ second.taken;
  appends = Appends-trans held between holds first.taken second.taken first.appends second.appends;
  same = sym (append_assoc old put more) ∙ ap (λ t. t ++ more) first.same ∙ append_assoc first.taken mid more ∙ ap (λ t. first.taken ++ t) second.same
      ∙ sym (append_assoc first.taken second.taken new);
}

-- the writer fails after that
pub TakesFront-then : (held between holds : Option (List ℕ)) (old mid put more : List ℕ) → PassesOn held between old mid put → TakesFront between holds (mid ++ more)
    → TakesFront held holds (old ++ (put ++ more))
TakesFront-then held between holds old mid put more first front = record {
  taken = first.taken ++ front.taken;
  left = front.left;
  appends = Appends-trans held between holds first.taken front.taken first.appends front.appends;
  split = sym (append_assoc old put more) ∙ ap (λ t. t ++ more) first.same ∙ append_assoc first.taken mid more ∙ ap (λ t. first.taken ++ t) front.split
      ∙ sym (append_assoc first.taken front.taken front.left);
}

-- ---- levels

pub Hears-none : (trace : Trace) → Hears trace trace [] []
Hears-none trace levels told hearing = subst (λ l. Hearing trace l (told ++ [])) (sym (append-nil levels)) (subst (Hearing trace levels) (sym (append-nil told)) hearing)

pub Hears-then : (a b c : Trace) (l m : List Level) (f g : List Finding) → Hears a b l f → Hears b c m g → Hears a c (l ++ m) (f ++ g)
Hears-then a b c l m f g first second levels told hearing =
    subst (λ x. Hearing c x (told ++ (f ++ g))) (append_assoc levels l m)
    (subst (Hearing c ((levels ++ l) ++ m)) (append_assoc told f g) (second (levels ++ l) (told ++ f) (first levels told hearing)))

-- ---- bytes

pub levels_in-append : (xs ys : List ℕ) → levels_in (xs ++ ys) ≡ levels_in xs ++ levels_in ys
levels_in-append xs ys = flat_map-append levels_of_byte xs ys

pub length-levels_in : (text : List ℕ) → length (levels_in text) ≤ length text
length-levels_in [] = omega arith
length-levels_in (byte ∷ text) = omega (arith, length-levels_in text, length-append (levels_of_byte byte) (levels_in text), one (nat_eq byte 48) (nat_eq byte 49))
  where
    one : (b c : Bool) → length (cond b (Dominant ∷ []) (cond c (Recessive ∷ []) [])) ≤ 1
    one true c = omega arith
    one false true = omega arith
    one false false = omega arith

-- recessive levels
pub levels_in-row : (n : ℕ) → levels_in (replicate n 49) ≡ replicate n Recessive
levels_in-row zero = refl
levels_in-row (suc n) = ap (λ l. Recessive ∷ l) (levels_in-row n)

-- the digits of levels
pub levels_in-digits : (levels : List Level) → levels_in (map digit_of levels) ≡ levels
levels_in-digits [] = refl
levels_in-digits (Dominant ∷ levels) = ap (λ l. Dominant ∷ l) (levels_in-digits levels)
levels_in-digits (Recessive ∷ levels) = ap (λ l. Recessive ∷ l) (levels_in-digits levels)

pub IsTraceText-digits : (levels : List Level) → IsTraceText (map digit_of levels)
IsTraceText-digits [] = tt
IsTraceText-digits (Dominant ∷ levels) = (refl, IsTraceText-digits levels)
IsTraceText-digits (Recessive ∷ levels) = (refl, IsTraceText-digits levels)

-- levels without findings, one part after the other
pub Untold-then : (a b c : Trace) (bytes : List ℕ) (n k : ℕ) → IsTraceText (take n bytes) → Hears a b (levels_in (take n bytes)) []
    → IsTraceText (take k (drop n bytes)) → Hears b c (levels_in (take k (drop n bytes))) [] → IsTraceText (take (n + k) bytes) × Hears a c (levels_in (take (n + k) bytes)) []
Untold-then a b c bytes n k text hears more_text more_hears =
    let front = take n bytes in
    let more = take k (drop n bytes) in
    let both : take (n + k) bytes ≡ front ++ more = take-add n k bytes in (
      subst IsTraceText (sym both) (AllByRecursion-append (λ byte. is_trace_byte byte ≡ true) front more text more_text),
      subst (λ l. Hears a c l []) (sym (ap levels_in both ∙ levels_in-append front more)) (Hears-then a b c (levels_in front) (levels_in more) [] [] hears more_hears),
    )

pub HearsText-none : (trace : Trace) (held : Option (List ℕ)) (waiting : List ℕ) → HearsText trace trace [] held held waiting waiting
HearsText-none trace held waiting = record { found = []; is_text = tt; hears = Hears-none trace; passes = PassesOn-none held waiting }

-- levels without findings
pub HearsText-untold : (old new : Trace) (text : List ℕ) (held : Option (List ℕ)) (waiting : List ℕ) → IsTraceText text → Hears old new (levels_in text) [] → HearsText old new text held held waiting waiting
HearsText-untold old new text held waiting is_text hears = record { found = []; is_text = is_text; hears = hears; passes = PassesOn-none held waiting }

module _ (a b c : Trace) (text more : List ℕ) (held between holds : Option (List ℕ)) (old mid new : List ℕ) (first : HearsText a b text held between old mid) where
  lines : (found : List Finding) → flat_map finding_line (first.found ++ found) ≡ flat_map finding_line first.found ++ flat_map finding_line found
  lines found = flat_map-append finding_line first.found found

  both_text : IsTraceText more → IsTraceText (text ++ more)
  both_text is_text = AllByRecursion-append (λ byte. is_trace_byte byte ≡ true) text more first.is_text is_text

  both_heard : (found : List Finding) → Hears b c (levels_in more) found → Hears a c (levels_in (text ++ more)) (first.found ++ found)
  both_heard found hears = subst (λ l. Hears a c l (first.found ++ found)) (sym (levels_in-append text more)) (Hears-then a b c (levels_in text) (levels_in more) first.found found first.hears hears)

  pub HearsText-then : HearsText b c more between holds mid new → HearsText a c (text ++ more) held holds old new
  HearsText-then second = record {
    found = first.found ++ second.found;
    is_text = both_text second.is_text;
    hears = both_heard second.found second.hears;
    passes = subst (PassesOn held holds old new) (sym (lines second.found))
        (PassesOn-then held between holds old mid new (flat_map finding_line first.found) (flat_map finding_line second.found) first.passes second.passes);
  }

module _ (a b c : Trace) (text more : List ℕ) (held between holds : Option (List ℕ)) (old mid new : List ℕ) (first : HearsText a b text held between old mid) (rest : List ℕ) where
  FailsToTell-then : FailsToTell b c more between holds mid → FailsToTell a c (text ++ (more ++ rest)) held holds old
  FailsToTell-then fails = record {
    text = text ++ fails.text;
    others = fails.others ++ rest;
    bytes_are = ap (λ t. text ++ (t ++ rest)) fails.bytes_are ∙ ap (λ t. text ++ t) (append_assoc fails.text fails.others rest) ∙ sym (append_assoc text fails.text (fails.others ++ rest));
    found = first.found ++ fails.found;
    is_text = both_text a b c text fails.text held between holds old mid new first fails.is_text;
    hears = both_heard a b c text fails.text held between holds old mid new first fails.found fails.hears;
    takes = subst (λ t. TakesFront held holds (old ++ t)) (sym (flat_map-append finding_line first.found fails.found))
        (TakesFront-then held between holds old mid (flat_map finding_line first.found) (flat_map finding_line fails.found) first.passes fails.takes);
  }

  MeetsBadByte-then : (start place : ℕ) → MeetsBadByte b c (start + length text) place more between holds mid new → MeetsBadByte a c start place (text ++ (more ++ rest)) held holds old new
  MeetsBadByte-then start place meets = record {
    text = text ++ meets.text;
    bad = meets.bad;
    others = meets.others ++ rest;
    bytes_are = ap (λ t. text ++ (t ++ rest)) meets.bytes_are ∙ ap (λ t. text ++ t) (append_assoc meets.text (meets.bad ∷ meets.others) rest)
        ∙ sym (append_assoc text meets.text (meets.bad ∷ (meets.others ++ rest)));
    is_bad = meets.is_bad;
    place_is = omega (arith, meets.place_is, length-append text meets.text);
    hears = HearsText-then a b c text meets.text held between holds old mid new first meets.hears;
  }

  -- it stops after trace text
  pub StopsHearing-then : (e : TraceFault) (start : ℕ) → StopsHearing e b c (start + length text) more between holds mid new → StopsHearing e a c start (text ++ (more ++ rest)) held holds old new
  StopsHearing-then Write start stops = (FailsToTell-then stops.0, stops.1)
  StopsHearing-then (BadByte place) start stops = MeetsBadByte-then start place stops
  StopsHearing-then Read start stops = stops
  StopsHearing-then Long start stops = stops
  StopsHearing-then (FrameLine n fault) start stops = stops
  StopsHearing-then (ScenarioField wrong) start stops = stops
  StopsHearing-then Memory start stops = stops

-- ---- one byte

module _ (old new : Trace) (byte : ℕ) (level : Level) (is : (is_trace_byte byte ≡ true) × (levels_of_byte byte ≡ level ∷ [])) where
  one_heard : (found : List Finding) → Hears old new (level ∷ []) found → Hears old new (levels_in (byte ∷ [])) found
  one_heard found hears = subst (λ l. Hears old new l found) (sym (append-nil (levels_of_byte byte) ∙ is.1)) hears

  pub HearsText-found : (held holds : Option (List ℕ)) (waiting waiting_now : List ℕ) (finding : Finding) → Hears old new (level ∷ []) (finding ∷ [])
      → PassesOn held holds waiting waiting_now (finding_line finding) → HearsText old new (byte ∷ []) held holds waiting waiting_now
  HearsText-found held holds waiting waiting_now finding hears passes = record {
    found = finding ∷ [];
    is_text = (is.0, tt);
    hears = one_heard (finding ∷ []) hears;
    passes = subst (PassesOn held holds waiting waiting_now) (sym (append-nil (finding_line finding))) passes;
  }

  pub HearsText-level : (held : Option (List ℕ)) (waiting : List ℕ) → Hears old new (level ∷ []) [] → HearsText old new (byte ∷ []) held held waiting waiting
  HearsText-level held waiting hears = HearsText-untold old new (byte ∷ []) held waiting (is.0, tt) (one_heard [] hears)

pub MeetsBadByte-here : (trace : Trace) (place byte : ℕ) (rest : List ℕ) (held : Option (List ℕ)) (waiting : List ℕ) → is_trace_byte byte ≡ false
    → MeetsBadByte trace trace place place (byte ∷ rest) held held waiting waiting
MeetsBadByte-here trace place byte rest held waiting is_bad = record {
  text = [];
  bad = byte;
  others = rest;
  bytes_are = refl;
  is_bad = is_bad;
  place_is = omega arith;
  hears = HearsText-none trace held waiting;
}

-- ---- bytes of a list, one after another

module _ (a b c : Trace) (bytes : List ℕ) (index : ℕ) (held between : Option (List ℕ)) (old mid : List ℕ) (first : HearsText a b (take index bytes) held between old mid) where
  -- some without findings
  pub HearsText-untold_part : (count : ℕ) → IsTraceText (take count (drop index bytes)) → Hears b c (levels_in (take count (drop index bytes))) []
      → HearsText a c (take (index + count) bytes) held between old mid
  HearsText-untold_part count is_text hears =
      subst (λ t. HearsText a c t held between old mid) (sym (take-add index count bytes))
      (HearsText-then a b c (take index bytes) (take count (drop index bytes)) held between between old mid mid first (HearsText-untold b c (take count (drop index bytes)) between mid is_text hears))

  module _ (holds : Option (List ℕ)) (new : List ℕ) (within : index < length bytes) where
    -- the next one
    pub HearsText-next : HearsText b c (get_or bytes index 0 ∷ []) between holds mid new → HearsText a c (take (index + 1) bytes) held holds old new
    HearsText-next next =
        subst (λ t. HearsText a c t held holds old new) (sym (take_more bytes index 0 within))
        (HearsText-then a b c (take index bytes) (get_or bytes index 0 ∷ []) held between holds old mid new first next)

    pub StopsHearing-next : (e : TraceFault) (start : ℕ) → StopsHearing e b c (start + index) (get_or bytes index 0 ∷ []) between holds mid new → StopsHearing e a c start bytes held holds old new
    StopsHearing-next e start stops =
        let front = take index bytes in
        let byte = get_or bytes index 0 in
        let whole : front ++ (byte ∷ drop (index + 1) bytes) ≡ bytes =
        sym (append_assoc front (byte ∷ []) (drop (index + 1) bytes)) ∙ ap (λ t. t ++ drop (index + 1) bytes) (sym (take_more bytes index 0 within)) ∙ take-append-drop (index + 1) bytes in
        let size : index ≡ length front = omega (arith, within, length-take index bytes) in
        subst (λ t. StopsHearing e a c start t held holds old new) whole
        (StopsHearing-then a b c front (byte ∷ []) held between holds old mid new first (drop (index + 1) bytes) e start
        (subst (λ n. StopsHearing e b c (start + n) (byte ∷ []) between holds mid new) size stops))
