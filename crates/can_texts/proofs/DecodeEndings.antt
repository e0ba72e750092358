-- What was read and written while a trace is decoded, and when the call ends.
use Rattle.std.proofs.Common.{◌≡◌, inl, inr, ℕ, ◌+◌, ◌^◌, ◌≤◌, Bool, true, false, List, [], ◌∷◌, ◌++◌, length, filter, Option, Result, Ok, Err, OnOk, OnErr, IfErr, refl, sym, ap, subst, ◌∙◌, append_assoc, arith, length-append}
use Rattle.std.proofs.lemmas.List.{append-nil}
use Rattle.std.proofs.lemmas.List.Elements.{filter-append}
use Rattle.std.proofs.lemmas.Bool.{cases_lt}
use Rattle.std.proofs.lemmas.Grind.{flat_map-append}
use Rattle.std.proofs.KnownBytes.{Appends-nil, Appends-trans, Consumes-nil, Consumes-trans}
use Rattle.std.specs.Io.KnownBytes.{Consumes}
use Rattle.std.specs.List.{flat_map, AllByRecursion}
use Rattle.can_frame.specs.declared.level.Level.{Level}
use Rattle.can_stream.specs.Told.{Told}
use Rattle.can_stream.specs.Faults.{is_write}
use Rattle.can_stream.specs.Inbox.{StopsReading, StopsTurn}
use Rattle.can_stream.specs.Outbox.{Flushes, PassesOn, TakesFront}
use Rattle.can_texts.specs.TraceText.{IsTraceText, is_trace_byte, levels_in}
use Rattle.can_texts.specs.Decoded.{BeginsDecoding, DecodesAll, DecodesClosed, DecodesSoFar, DecodesToBadByte, DecodesTooLong, FullAnswer, Finds, finding_line, is_closed}
use Rattle.can_texts.specs.Decoding.{Decodes, EndsWith, FailsToTell, Hearing, HearsText, MeetsBadByte, StopsHearing}
use Rattle.can_stream.specs.declared.fault.TraceFault.{TraceFault}
use Rattle.can_stream.specs.declared.fault.TraceFault.TheVariants.{BadByte, Read, Write, Long, FrameLine, ScenarioField, Memory}
use Rattle.can_texts.specs.declared.traces.finding.Finding.{Finding}
use Rattle.can_texts.specs.declared.traces.trace.Trace.{Trace}
use Rattle.can_stream.proofs.Elements.{AllByRecursion-append}
use Rattle.can_texts.proofs.TraceSteps.{Hearing-ends}
use Rattle.can_texts.proofs.FindsTotal.{Hearing-goes_on}
use Rattle.can_texts.proofs.DecodeSteps.{levels_in-append, length-levels_in}
use Rattle.can_stream.proofs.Turns.{PassesOn-flushed, TakesFront-flushed, same-flushed, unwritten}

-- ---- the state of a run

-- The input is trace text, of which the trace has taken the levels, and the output is the lines of its findings.
pub record HeardSoFar (trace : Trace) (input output : List ℕ) : Type 0 where
  pub is_text : IsTraceText input
  pub told : List Finding
  pub hearing : Hearing trace (levels_in input) told
  pub lines : output ≡ flat_map finding_line told

lines-append : (told found : List Finding) → flat_map finding_line (told ++ found) ≡ flat_map finding_line told ++ flat_map finding_line found
lines-append told found = flat_map-append finding_line told found

-- the findings are closed
closed-same : (told : List Finding) → AllByRecursion (λ finding. is_closed finding ≡ true) told → filter is_closed told ≡ told
closed-same [] all = refl
closed-same (finding ∷ told) all = rw all.0 (ap (λ t. finding ∷ t) (closed-same told all.1))

text-append : (text more : List ℕ) → IsTraceText text → IsTraceText more → IsTraceText (text ++ more)
text-append text more h k = AllByRecursion-append (λ byte. is_trace_byte byte ≡ true) text more h k

-- more bytes were heard
HeardSoFar-more : (old new : Trace) (input output text waiting waiting_now : List ℕ) (held holds : Option (List ℕ)) → HeardSoFar old input (output ++ waiting)
    → (hears : HearsText old new text held holds waiting waiting_now) → HeardSoFar new (input ++ text) ((output ++ hears.passes.taken) ++ waiting_now)
HeardSoFar-more old new input output text waiting waiting_now held holds so_far hears =
    let put = flat_map finding_line hears.found in
    record {
      is_text = text-append input text so_far.is_text hears.is_text;
      told = so_far.told ++ hears.found;
      hearing = subst (λ l. Hearing new l (so_far.told ++ hears.found)) (sym (levels_in-append input text)) (hears.hears (levels_in input) so_far.told so_far.hearing);
      lines = append_assoc output hears.passes.taken waiting_now ∙ ap (λ t. output ++ t) (sym hears.passes.same) ∙ sym (append_assoc output waiting put)
          ∙ ap (λ t. t ++ put) so_far.lines ∙ sym (lines-append so_far.told hears.found);
    }

-- ---- how it ends

module _ (trace : Trace) (input output : List ℕ) (so_far : HeardSoFar trace input output) where
  -- the closed lines
  DecodesSoFar-here : DecodesSoFar input output
  DecodesSoFar-here =
      let ends = Hearing-ends trace (levels_in input) so_far.told so_far.hearing in
      let closed : filter is_closed (so_far.told ++ ends.0) ≡ so_far.told =
      filter-append is_closed so_far.told ends.0 ∙ ap (λ t. filter is_closed so_far.told ++ t) ends.1.unclosed ∙ append-nil (filter is_closed so_far.told)
      ∙ closed-same so_far.told so_far.hearing.closed in
      record {
        text = so_far.is_text;
        decodes = record { found = so_far.told ++ ends.0; finds = ends.1.finds; lines = so_far.lines ∙ ap (flat_map finding_line) (sym closed) };
      }

  -- a bad byte comes after it
  DecodesToBadByte-here : (place bad : ℕ) (after : List ℕ) → is_trace_byte bad ≡ false → place ≡ length input → DecodesToBadByte place (input ++ bad ∷ after) output
  DecodesToBadByte-here place bad after is_bad place_is = record {
    bad = record { before = input; bad = bad; after = after; text_is = refl; good = so_far.is_text; is_bad = is_bad; place_is = place_is };
    decodes = DecodesSoFar-here.decodes;
  }

  -- the lines of the findings, and no other bytes come
  DecodesAll-here : (found : List Finding) → length input ≤ 2 ^ 63 → Finds 0 (levels_in input) (so_far.told ++ found) → DecodesAll input (output ++ flat_map finding_line found)
  DecodesAll-here found within finds = record {
    within = within;
    text = so_far.is_text;
    decodes = record { found = so_far.told ++ found; finds = finds; lines = ap (λ t. t ++ flat_map finding_line found) so_far.lines ∙ sym (lines-append so_far.told found) };
  }

  -- ---- what is written in the end if other bytes come

  -- the closed lines of what comes
  closed_behind : (found : List Finding) → output ++ flat_map finding_line (filter is_closed found) ≡ flat_map finding_line (filter is_closed (so_far.told ++ found))
  closed_behind found =
      ap (λ t. t ++ flat_map finding_line (filter is_closed found)) so_far.lines ∙ sym (lines-append so_far.told (filter is_closed found))
      ∙ ap (λ t. flat_map finding_line (t ++ filter is_closed found)) (sym (closed-same so_far.told so_far.hearing.closed)) ∙ ap (flat_map finding_line) (sym (filter-append is_closed so_far.told found))

  -- what the levels of other trace text come to
  Finds-later : (more : List ℕ) → (found : List Finding) × Finds 0 (levels_in (input ++ more)) (so_far.told ++ found)
  Finds-later more =
      let later = Hearing-goes_on trace (levels_in input) so_far.told so_far.hearing (levels_in more) in
      (later.0, subst (λ l. Finds 0 l (so_far.told ++ later.0)) (sym (levels_in-append input more)) later.1)

  DecodesClosed-later : (more : List ℕ) → (rest : List ℕ) × DecodesClosed (levels_in (input ++ more)) (output ++ rest)
  DecodesClosed-later more =
      let later = Finds-later more in
      (flat_map finding_line (filter is_closed later.0), record { found = so_far.told ++ later.0; finds = later.1; lines = closed_behind later.0 })

  FullAnswer-text : (more : List ℕ) → IsTraceText more → (rest : List ℕ) × FullAnswer (input ++ more) (output ++ rest)
  FullAnswer-text more is_text = elim (cases_lt (2 ^ 63) (length (input ++ more))) [
    | inl long ↦
        let later = DecodesClosed-later more in
        (later.0, FullAnswer.to_limit (record { long = long; decodes = record { text = text-append input more so_far.is_text is_text; decodes = later.1 } }))
    | inr within ↦
        let later = Finds-later more in
        let lines = ap (λ t. t ++ flat_map finding_line later.0) so_far.lines ∙ sym (lines-append so_far.told later.0) in (
          flat_map finding_line later.0,
          FullAnswer.to_end (record {
            within = within;
            text = text-append input more so_far.is_text is_text;
            decodes = record { found = so_far.told ++ later.0; finds = later.1; lines = lines };
          }),
        )
  ]

  FullAnswer-bad : (good : List ℕ) (bad : ℕ) (after : List ℕ) → IsTraceText good → is_trace_byte bad ≡ false → (rest : List ℕ) × FullAnswer (input ++ (good ++ bad ∷ after)) (output ++ rest)
  FullAnswer-bad good bad after is_text is_bad =
      let later = DecodesClosed-later good in
      let answer : DecodesToBadByte (length (input ++ good)) (input ++ (good ++ bad ∷ after)) (output ++ later.0) =
      record {
        bad = record {
          before = input ++ good;
          bad = bad;
          after = after;
          text_is = sym (append_assoc input good (bad ∷ after));
          good = text-append input good so_far.is_text is_text;
          is_bad = is_bad;
          place_is = refl;
        };
        decodes = later.1;
      } in
      (later.0, FullAnswer.to_bad_byte (length (input ++ good)) answer)

  pub FullAnswer-later : (good others : List ℕ) → IsTraceText good → (rest : List ℕ) × FullAnswer (input ++ (good ++ others)) (output ++ rest)
  FullAnswer-later good [] is_text = subst (λ t. (rest : List ℕ) × FullAnswer (input ++ t) (output ++ rest)) (sym (append-nil good)) (FullAnswer-text good is_text)
  FullAnswer-later good (byte ∷ others) is_text = by_byte (is_trace_byte byte) refl (FullAnswer-later (good ++ byte ∷ []) others)
    where
      by_byte : (b : Bool) → is_trace_byte byte ≡ b → (IsTraceText (good ++ byte ∷ []) → (rest : List ℕ) × FullAnswer (input ++ ((good ++ byte ∷ []) ++ others)) (output ++ rest))
          → (rest : List ℕ) × FullAnswer (input ++ (good ++ byte ∷ others)) (output ++ rest)
      by_byte false is_bad on = FullAnswer-bad good byte others is_text is_bad
      by_byte true is_good on =
          let later = on (text-append good (byte ∷ []) is_text (is_good, tt)) in
          (later.0, subst (λ t. FullAnswer (input ++ t) (output ++ later.0)) (append_assoc good (byte ∷ []) others) later.1)

-- the writer took a prefix of the lines of the findings, when other bytes had been read
BeginsDecoding-from : (trace : Trace) (input output taken left others : List ℕ) → HeardSoFar trace input (output ++ (taken ++ left)) → BeginsDecoding (input ++ others) (output ++ taken)
BeginsDecoding-from trace input output taken left others so_far =
    let later = FullAnswer-later trace input (output ++ (taken ++ left)) so_far [] others tt in
    let moved : (output ++ (taken ++ left)) ++ later.0 ≡ (output ++ taken) ++ (left ++ later.0) =
    ap (λ t. t ++ later.0) (sym (append_assoc output taken left)) ∙ append_assoc (output ++ taken) left later.0 in
    record { rest = left ++ later.0; answer = subst (FullAnswer (input ++ others)) moved later.1 }

-- ---- what was read and written

module _ {R W : Type 0} (remaining : R → Option (List ℕ)) (r_before : R) (contents : W → Option (List ℕ)) (w_before : W) where
  abbrev Heard : R → W → Trace → List ℕ → Type 0
  Heard r w trace waiting = Told remaining r_before r contents w_before w (λ input output. HeardSoFar trace input (output ++ waiting))

  abbrev Ends : Result (Unit {0}) TraceFault → R → W → List ℕ → Type 0
  Ends result r w waiting = Told remaining r_before r contents w_before w (λ input output. Decodes result input (output ++ waiting))

  -- n bytes were read and decoded
  pub record Decoding (r : R) (w : W) (trace : Trace) (waiting : List ℕ) (taken : ℕ) : Type 0 where
    pub heard : Told remaining r_before r contents w_before w (λ input output. HeardSoFar trace input (output ++ waiting))
    pub counted : taken ≡ length heard.input

  -- nothing was read so far
  pub Decoding-none : (trace : Trace) (waiting : List ℕ) (taken : ℕ) → Hearing trace [] [] → waiting ≡ [] → taken ≡ 0 → Decoding r_before w_before trace waiting taken
  Decoding-none trace waiting taken hearing none zero_taken = record {
    heard = record {
      input = [];
      output = [];
      consumes = Consumes-nil (remaining r_before);
      appends = Appends-nil (contents w_before);
      related = record { is_text = tt; told = []; hearing = hearing; lines = none };
    };
    counted = zero_taken;
  }

  -- a trace has heard no more levels than bytes were read
  pub place_within : (r : R) (w : W) (trace : Trace) (waiting : List ℕ) (taken : ℕ) → Decoding r w trace waiting taken → trace.place ≤ taken
  place_within r w trace waiting taken d = omega (arith, d.counted, d.heard.related.hearing.place_is, length-levels_in d.heard.input)

  module _ (r r_now : R) (w : W) (old : Trace) (waiting : List ℕ) (heard : Heard r w old waiting) where
    -- no more is read
    pub Told-stopped : (e : TraceFault) (failed : Bool) (taken : ℕ) (bytes : List ℕ) → Consumes (remaining r) (remaining r_now) bytes → bytes ≡ [] → taken ≡ length heard.input
        → StopsReading e failed taken → Ends (Err e) r_now w waiting
    Told-stopped e failed taken bytes consumes none counted stops = record {
      input = heard.input ++ bytes;
      output = heard.output;
      consumes = Consumes-trans _ _ _ heard.input bytes heard.consumes consumes;
      appends = heard.appends;
      related = subst (λ t. Decodes {A = Unit {0}} (Err e) t (heard.output ++ waiting)) (sym (append-nil heard.input) ∙ ap (λ t. heard.input ++ t) (sym none)) (by_fault e stops);
    }
      where
        by_fault : (e : TraceFault) → StopsReading e failed taken → Decodes {A = Unit {0}} (Err e) heard.input (heard.output ++ waiting)
        by_fault Read stops =
            let output = heard.output ++ waiting in
            let later = FullAnswer-text old heard.input output heard.related [] tt in
            (DecodesSoFar-here old heard.input output heard.related, record { rest = later.0; answer = subst (λ t. FullAnswer t (output ++ later.0)) (append-nil heard.input) later.1 })
        by_fault Long stops = record { long = omega (arith, stops.1, counted); decodes = DecodesSoFar-here old heard.input (heard.output ++ waiting) heard.related }
        by_fault Write stops = absurd stops
        by_fault (BadByte place) stops = absurd stops
        by_fault (FrameLine n fault) stops = absurd stops
        by_fault (ScenarioField wrong) stops = absurd stops
        by_fault Memory stops = absurd stops

    module _ (bytes : List ℕ) (consumes : Consumes (remaining r) (remaining r_now) bytes) (new : Trace) (w_now : W) (waiting_now : List ℕ) where
      -- all bytes were heard
      pub Decoding-more : (taken taken_now : ℕ) → taken ≡ length heard.input → taken_now ≡ taken + length bytes → HearsText old new bytes (contents w) (contents w_now) waiting waiting_now
          → Decoding r_now w_now new waiting_now taken_now
      Decoding-more taken taken_now counted more hears = record {
        heard = record {
          input = heard.input ++ bytes;
          output = heard.output ++ hears.passes.taken;
          consumes = Consumes-trans _ _ _ heard.input bytes heard.consumes consumes;
          appends = Appends-trans _ _ _ heard.output hears.passes.taken heard.appends hears.passes.appends;
          related = HeardSoFar-more old new heard.input heard.output bytes waiting waiting_now (contents w) (contents w_now) heard.related hears;
        };
        counted = omega (arith, counted, more, length-append heard.input bytes);
      }

      -- they were not
      pub Told-unheard : (e : TraceFault) (start : ℕ) → start ≡ length heard.input → StopsHearing e old new start bytes (contents w) (contents w_now) waiting waiting_now → Ends (Err e) r_now w_now waiting_now
      Told-unheard Write start start_is stops = unwritten stops.0 stops.1
        where
          unwritten : FailsToTell old new bytes (contents w) (contents w_now) waiting → waiting_now ≡ [] → Ends (Err Write) r_now w_now waiting_now
          unwritten fails none =
              let put = flat_map finding_line fails.found in
              let front = fails.takes in
              let so_far : HeardSoFar new (heard.input ++ fails.text) (heard.output ++ (front.taken ++ front.left)) =
              record {
                is_text = text-append heard.input fails.text heard.related.is_text fails.is_text;
                told = heard.related.told ++ fails.found;
                hearing = subst (λ l. Hearing new l (heard.related.told ++ fails.found)) (sym (levels_in-append heard.input fails.text)) (fails.hears (levels_in heard.input) heard.related.told heard.related.hearing);
                lines = ap (λ t. heard.output ++ t) (sym front.split) ∙ sym (append_assoc heard.output waiting put) ∙ ap (λ t. t ++ put) heard.related.lines
                    ∙ sym (lines-append heard.related.told fails.found);
              } in
              let begins = BeginsDecoding-from new (heard.input ++ fails.text) heard.output front.taken front.left fails.others so_far in
              record {
                input = heard.input ++ bytes;
                output = heard.output ++ front.taken;
                consumes = Consumes-trans _ _ _ heard.input bytes heard.consumes consumes;
                appends = Appends-trans _ _ _ heard.output front.taken heard.appends front.appends;
                related = subst (λ t. BeginsDecoding t ((heard.output ++ front.taken) ++ waiting_now)) (append_assoc heard.input fails.text fails.others ∙ ap (λ t. heard.input ++ t) (sym fails.bytes_are))
                    (subst (BeginsDecoding ((heard.input ++ fails.text) ++ fails.others)) (sym (append-nil (heard.output ++ front.taken)) ∙ ap (λ t. (heard.output ++ front.taken) ++ t) (sym none)) begins);
              }
      Told-unheard (BadByte place) start start_is stops = met stops
        where
          met : MeetsBadByte old new start place bytes (contents w) (contents w_now) waiting waiting_now → Ends (Err (BadByte place)) r_now w_now waiting_now
          met meets =
              let hears = meets.hears in
              let so_far = HeardSoFar-more old new heard.input heard.output meets.text waiting waiting_now (contents w) (contents w_now) heard.related hears in
              let output = (heard.output ++ hears.passes.taken) ++ waiting_now in
              let place_is : place ≡ length (heard.input ++ meets.text) = omega (arith, meets.place_is, start_is, length-append heard.input meets.text) in
              record {
                input = heard.input ++ bytes;
                output = heard.output ++ hears.passes.taken;
                consumes = Consumes-trans _ _ _ heard.input bytes heard.consumes consumes;
                appends = Appends-trans _ _ _ heard.output hears.passes.taken heard.appends hears.passes.appends;
                related = subst (λ t. DecodesToBadByte place t output) (append_assoc heard.input meets.text (meets.bad ∷ meets.others) ∙ ap (λ t. heard.input ++ t) (sym meets.bytes_are))
                    (DecodesToBadByte-here new (heard.input ++ meets.text) output so_far place meets.bad meets.others meets.is_bad place_is);
              }
      Told-unheard Read start start_is stops = absurd stops
      Told-unheard Long start start_is stops = absurd stops
      Told-unheard (FrameLine n fault) start start_is stops = absurd stops
      Told-unheard (ScenarioField wrong) start start_is stops = absurd stops
      Told-unheard Memory start start_is stops = absurd stops

    -- the reader ended, and no finding is left
    module _ (bytes : List ℕ) (consumes : Consumes (remaining r) (remaining r_now) bytes) (none : bytes ≡ []) where
      all : Told remaining r_before r_now contents w_before w (λ input output. HeardSoFar old input (output ++ waiting))
      all = record {
        input = heard.input ++ bytes;
        output = heard.output;
        consumes = Consumes-trans _ _ _ heard.input bytes heard.consumes consumes;
        appends = heard.appends;
        related = subst (λ t. HeardSoFar old t (heard.output ++ waiting)) (sym (append-nil heard.input) ∙ ap (λ t. heard.input ++ t) (sym none)) heard.related;
      }

      fits : (taken : ℕ) → taken ≡ length heard.input → taken ≤ 2 ^ 63 → length all.input ≤ 2 ^ 63
      unfolding all
      fits taken counted within = omega (arith, counted, within, ap length none, length-append heard.input bytes)

      pub Told-done : (taken : ℕ) → taken ≡ length heard.input → taken ≤ 2 ^ 63 → ((levels : List Level) (told : List Finding) → Hearing old levels told → EndsWith levels told []) → Ends (Ok tt) r_now w waiting
      Told-done taken counted within ends = record {
        input = all.input;
        output = all.output;
        consumes = all.consumes;
        appends = all.appends;
        related =
            let here = all.related in
            subst (DecodesAll all.input) (append-nil (all.output ++ waiting))
            (DecodesAll-here old all.input (all.output ++ waiting) here [] (fits taken counted within) (ends (levels_in all.input) here.told here.hearing).finds);
      }

      module _ (finding : Finding) (w_now : W) (waiting_now : List ℕ) (ends : (levels : List Level) (told : List Finding) → Hearing old levels told → EndsWith levels told (finding ∷ [])) where
        -- or the frame in which the levels end
        pub Told-open : (taken : ℕ) → taken ≡ length heard.input → taken ≤ 2 ^ 63 → PassesOn (contents w) (contents w_now) waiting waiting_now (finding_line finding) → Ends (Ok tt) r_now w_now waiting_now
        Told-open taken counted within passes = record {
          input = all.input;
          output = all.output ++ passes.taken;
          consumes = all.consumes;
          appends = Appends-trans _ _ _ all.output passes.taken all.appends passes.appends;
          related =
              let here = all.related in
              let moved : (all.output ++ waiting) ++ flat_map finding_line (finding ∷ []) ≡ (all.output ++ passes.taken) ++ waiting_now =
              ap (λ t. (all.output ++ waiting) ++ t) (append-nil (finding_line finding)) ∙ append_assoc all.output waiting (finding_line finding) ∙ ap (λ t. all.output ++ t) passes.same
              ∙ sym (append_assoc all.output passes.taken waiting_now) in
              subst (DecodesAll all.input) moved
              (DecodesAll-here old all.input (all.output ++ waiting) here (finding ∷ []) (fits taken counted within) (ends (levels_in all.input) here.told here.hearing).finds);
        }

      -- or the writer failed before that was written
      pub Told-untold : (w_now : W) → TakesFront (contents w) (contents w_now) waiting → Ends (Err Write) r_now w_now []
      Told-untold w_now front = record {
        input = all.input;
        output = all.output ++ front.taken;
        consumes = all.consumes;
        appends = Appends-trans _ _ _ all.output front.taken all.appends front.appends;
        related =
            let here : HeardSoFar old all.input (all.output ++ (front.taken ++ front.left)) = subst (λ t. HeardSoFar old all.input (all.output ++ t)) front.split all.related in
            subst (λ t. BeginsDecoding t ((all.output ++ front.taken) ++ [])) (append-nil all.input)
            (subst (BeginsDecoding (all.input ++ [])) (sym (append-nil (all.output ++ front.taken))) (BeginsDecoding-from old all.input all.output front.taken front.left [] here));
      }

      -- by the result of telling it
      pub Told-finished : (result : Result (Unit {0}) TraceFault) (finding : Finding) (w_now : W) (waiting_now : List ℕ) (taken : ℕ) → taken ≡ length heard.input → taken ≤ 2 ^ 63
          → ((levels : List Level) (told : List Finding) → Hearing old levels told → EndsWith levels told (finding ∷ []))
          → OnOk result (PassesOn (contents w) (contents w_now) waiting waiting_now (finding_line finding)) → OnErr result (TakesFront (contents w) (contents w_now) waiting)
          → OnErr result (waiting_now ≡ []) → IfErr result (λ e. e ≡ Write) → Ends result r_now w_now waiting_now
      Told-finished (Ok u) finding w_now waiting_now taken counted within ends passes front none is_write = Told-open finding w_now waiting_now ends taken counted within passes
      Told-finished (Err e) finding w_now waiting_now taken counted within ends passes front none is_write =
          subst (λ x. Ends (Err x) r_now w_now waiting_now) (sym is_write) (subst (Ends (Err Write) r_now w_now) (sym none) (Told-untold w_now front))

module _ {R W : Type 0} (remaining : R → Option (List ℕ)) (r_before : R) (contents : W → Option (List ℕ)) (w_before : W) where
  -- what waited was written
  abbrev pub Decoding-flushed : (r : R) (w w_now : W) (trace : Trace) (waiting waiting_now : List ℕ) (taken : ℕ) → Decoding remaining r_before contents w_before r w trace waiting taken
      → PassesOn (contents w) (contents w_now) waiting waiting_now [] → Decoding remaining r_before contents w_before r w_now trace waiting_now taken
  Decoding-flushed r w w_now trace waiting waiting_now taken d passes = record {
    heard = record {
      input = d.heard.input;
      output = d.heard.output ++ passes.taken;
      consumes = d.heard.consumes;
      appends = Appends-trans _ _ _ d.heard.output passes.taken d.heard.appends passes.appends;
      related = subst (HeardSoFar trace d.heard.input) (same-flushed _ _ d.heard.output waiting waiting_now passes) d.heard.related;
    };
    counted = d.counted;
  }

  -- reading stops, if the pending output is written before each read
  pub Told-unread : (r r_now : R) (w w_now : W) (trace : Trace) (waiting waiting_now : List ℕ) (taken : ℕ) (d : Decoding remaining r_before contents w_before r w trace waiting taken)
      → (e : TraceFault) (failed write_failed : Bool) (taken_now : ℕ) (bytes : List ℕ) → Consumes (remaining r) (remaining r_now) bytes → bytes ≡ [] → taken_now ≡ length d.heard.input
      → write_failed ≡ is_write e → StopsTurn e failed taken_now → Flushes write_failed (contents w) (contents w_now) waiting waiting_now → Ends remaining r_before contents w_before (Err e) r_now w_now waiting_now
  Told-unread r r_now w w_now trace waiting waiting_now taken d e failed write_failed taken_now bytes consumes none counted is (inl stops) flushes =
      let fails = TakesFront-flushed write_failed _ _ waiting waiting_now (is ∙ ap is_write stops.0) flushes in
      let untold = Told-untold remaining r_before contents w_before r r_now w trace waiting d.heard bytes consumes none w_now fails.0 in
      subst (λ x. Ends remaining r_before contents w_before (Err x) r_now w_now waiting_now) (sym stops.0) (subst (Ends remaining r_before contents w_before (Err Write) r_now w_now) (sym fails.1) untold)
  Told-unread r r_now w w_now trace waiting waiting_now taken d e failed write_failed taken_now bytes consumes none counted is (inr stops) flushes =
      let passes = PassesOn-flushed write_failed _ _ waiting waiting_now (is ∙ unwritten e failed taken_now stops) flushes in
      let now = Decoding-flushed r w w_now trace waiting waiting_now taken d passes in
      Told-stopped remaining r_before contents w_before r r_now w_now trace waiting_now now.heard e failed taken_now bytes consumes none counted stops

-- a part of what waits is written
moved : (output waiting taken left : List ℕ) → waiting ≡ taken ++ left → output ++ waiting ≡ (output ++ taken) ++ left
moved output waiting taken left split = ap (λ t. output ++ t) split ∙ sym (append_assoc output taken left)

BeginsDecoding-moved : (input output waiting taken left : List ℕ) → waiting ≡ taken ++ left → BeginsDecoding input (output ++ waiting) → BeginsDecoding input (output ++ taken)
BeginsDecoding-moved input output waiting taken left split begins = record {
  rest = left ++ begins.rest;
  answer = subst (FullAnswer input) (ap (λ t. t ++ begins.rest) (moved output waiting taken left split) ∙ append_assoc (output ++ taken) left begins.rest) begins.answer;
}

-- however a call ends, a part of what was to be written is a prefix of the output
pub BeginsDecoding-within : (result : Result (Unit {0}) TraceFault) (input output waiting taken left : List ℕ) → waiting ≡ taken ++ left → Decodes result input (output ++ waiting) → BeginsDecoding input (output ++ taken)
BeginsDecoding-within (Ok u) input output waiting taken left split all = record { rest = left; answer = FullAnswer.to_end (subst (DecodesAll input) (moved output waiting taken left split) all) }
BeginsDecoding-within (Err (BadByte place)) input output waiting taken left split bad =
    record { rest = left; answer = FullAnswer.to_bad_byte place (subst (DecodesToBadByte place input) (moved output waiting taken left split) bad) }
BeginsDecoding-within (Err Read) input output waiting taken left split so_far = BeginsDecoding-moved input output waiting taken left split so_far.1
BeginsDecoding-within (Err Long) input output waiting taken left split long = record { rest = left; answer = FullAnswer.to_limit (subst (DecodesTooLong input) (moved output waiting taken left split) long) }
BeginsDecoding-within (Err Write) input output waiting taken left split begins = BeginsDecoding-moved input output waiting taken left split begins
BeginsDecoding-within (Err (FrameLine n fault)) input output waiting taken left split none = absurd none
BeginsDecoding-within (Err (ScenarioField wrong)) input output waiting taken left split none = absurd none
BeginsDecoding-within (Err Memory) input output waiting taken left split none = absurd none
