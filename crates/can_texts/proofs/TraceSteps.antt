-- How a trace goes on, level by level.
use Rattle.std.proofs.Common.{◌≡◌, ℕ, zero, suc, ◌+◌, ◌<◌, ◌≤◌, true, false, List, [], ◌∷◌, ◌++◌, length, refl, sym, ap, subst, ◌∙◌, append_assoc, arith, length-append}
use Rattle.std.proofs.lemmas.List.{append-nil}
use Rattle.can_frame.specs.declared.level.Level.{Level}
use Rattle.can_frame.specs.declared.level.Level.TheVariants.{Dominant, Recessive}
use Rattle.can_frame.specs.Levels.{is_recessive}
use Rattle.std.specs.List.{AllByRecursion}
use Rattle.can_code.specs.declared.fault.CodeFaultKind.{CodeFaultKind}
use Rattle.can_code.specs.declared.fault.CodeFaultKind.TheVariants.{Short, NoStartOfFrame, Stuff, Crc, Form}
use Rattle.can_wire.specs.Heard.{HeardParts, Spells}
use Rattle.can_code.specs.CodeFaults.{IsCodeFault}
use Rattle.can_code.specs.Decoder.{DecoderParts, HasHeard}
use Rattle.can_texts.specs.Decoded.{Finds, SkipsToIdle, is_closed}
use Rattle.can_texts.specs.Decoding.{GoesOn, SearchesOn, IsInFrame, IsLost, Stands, Hearing, EndsWith}
use Rattle.can_code.proofs.DecoderLemmas.{HasHeard-short}
use Rattle.can_texts.specs.declared.traces.trace.Trace.{Trace}
use Rattle.can_texts.specs.declared.traces.trace.State.{State}
use Rattle.can_texts.specs.declared.traces.trace.State.TheVariants.{Idle, InFrame, Lost}
use Rattle.can_stream.proofs.Elements.{AllByRecursion-append}
use Rattle.can_texts.specs.declared.traces.finding.Finding.{Finding}
use Rattle.can_texts.specs.declared.traces.finding.Finding.TheVariants.{Frame, Fault}
use Rattle.can_texts.proofs.IdleRows.{row, length-row, row-more, SkipsToIdle-dominant, SkipsToIdle-eleven, SkipsToIdle-few}

-- the place after levels
behind : (done more rest : List Level) (found : List Finding) → Finds (length (done ++ more)) rest found → Finds (length done + length more) rest found
behind done more rest found = subst (λ p. Finds p rest found) (length-append done more)

regrouped : (done more rest : List Level) (told new found : List Finding) → Finds 0 (done ++ (more ++ rest)) (told ++ (new ++ found)) → Finds 0 ((done ++ more) ++ rest) ((told ++ new) ++ found)
regrouped done more rest told new found finds =
    subst (λ l. Finds 0 l ((told ++ new) ++ found)) (sym (append_assoc done more rest))
    (subst (Finds 0 (done ++ (more ++ rest))) (sym (append_assoc told new found)) finds)

-- a recessive level between frames
GoesOn-recessive : (done : List Level) (told : List Finding) → GoesOn done told → GoesOn (done ++ Recessive ∷ []) told
GoesOn-recessive done told on more found finds =
    subst (λ l. Finds 0 l (told ++ found)) (sym (append_assoc done (Recessive ∷ []) more))
    (on (Recessive ∷ more) found (Finds.idle (length done) more found (behind done (Recessive ∷ []) more found finds)))

-- many of them
pub GoesOn-row : (n : ℕ) (done : List Level) (told : List Finding) → GoesOn done told → GoesOn (done ++ row n) told
GoesOn-row zero done told on = subst (λ l. GoesOn l told) (sym (append-nil done)) on
GoesOn-row (suc n) done told on = subst (λ l. GoesOn l told) (append_assoc done (Recessive ∷ []) (row n)) (GoesOn-row n (done ++ Recessive ∷ []) told (GoesOn-recessive done told on))

-- a frame
pub GoesOn-frame : (done w : List Level) (told : List Finding) (h : HeardParts) → GoesOn done told → Spells h w → GoesOn (done ++ w) (told ++ Frame (length done) h ∷ [])
GoesOn-frame done w told h on spells more found finds =
    let place = length done in
    regrouped done w more told (Frame place h ∷ []) found (on (w ++ more) (Frame place h ∷ found) (Finds.frame place h w more found spells (behind done w more found finds)))

-- a fault, at the first of the levels with which the search begins
pub SearchesOn-fault : (done others : List Level) (level : Level) (told : List Finding) (kind : CodeFaultKind) → GoesOn done told
    → ((rest : List Level) → IsCodeFault ((Dominant ∷ others) ++ level ∷ rest) (record { kind = kind; place = length (Dominant ∷ others) }))
    → SearchesOn (level ∷ []) (done ++ Dominant ∷ others) (told ++ Fault (length done) kind (length done + length (Dominant ∷ others)) ∷ [])
SearchesOn-fault done others level told kind on is_fault more skipped rest found split skips finds =
    let place = length done in
    let front = Dominant ∷ others in
    let finding = Fault place kind (place + length front) in
    let at = subst (λ l. IsCodeFault (front ++ l) (record { kind = kind; place = length front })) split (is_fault more) in
    let next = subst (λ l. Finds (length l) rest found) (append_assoc done front skipped) finds in
    regrouped done front (skipped ++ rest) told (finding ∷ []) found
    (on (front ++ (skipped ++ rest)) (finding ∷ found)
    (Finds.fault place (others ++ (skipped ++ rest)) front skipped rest kind found refl at skips (behind done (front ++ skipped) rest found next)))

-- one level more of the search
pub SearchesOn-more : (begun done : List Level) (level : Level) (told : List Finding) → SearchesOn begun done told → SearchesOn (begun ++ level ∷ []) done told
SearchesOn-more begun done level told on more skipped rest found split = on (level ∷ more) skipped rest found (sym (append_assoc begun (level ∷ []) more) ∙ split)

-- a dominant level, after which the search begins again
pub SearchesOn-dominant : (n : ℕ) (done : List Level) (told : List Finding) → n < 11 → SearchesOn (row n ++ Dominant ∷ []) done told
    → SearchesOn [] (done ++ (row n ++ Dominant ∷ [])) told
SearchesOn-dominant n done told few on more skipped rest found split skips finds =
    let begun = row n ++ Dominant ∷ [] in
    let next = subst (λ l. Finds (length l) rest found) (append_assoc done begun skipped) finds in
    let all = on more (begun ++ skipped) rest found (ap (λ l. begun ++ l) split ∙ sym (append_assoc begun skipped rest)) (SkipsToIdle-dominant n skipped rest few skips) next in
    subst (λ l. Finds 0 l (told ++ found)) (ap (λ l. done ++ l) (append_assoc begun skipped rest) ∙ sym (append_assoc done begun (skipped ++ rest))) all

-- the eleventh recessive level
pub GoesOn-eleven : (done : List Level) (told : List Finding) → SearchesOn (row 11) done told → GoesOn (done ++ row 11) told
GoesOn-eleven done told on more found finds =
    subst (λ l. Finds 0 l (told ++ found)) (sym (append_assoc done (row 11) more)) (on more (row 11) more found refl (SkipsToIdle-eleven more) finds)

-- the levels are over in the search
pub SearchesOn-over : (n : ℕ) (done : List Level) (told : List Finding) → n < 11 → SearchesOn (row n) done told → Finds 0 (done ++ row n) (told ++ [])
SearchesOn-over n done told few on =
    subst (λ l. Finds 0 (done ++ l) (told ++ [])) (append-nil (row n)) (on [] (row n) [] [] refl (SkipsToIdle-few n few) (Finds.over (length (done ++ row n))))

-- or in a frame
pub GoesOn-short : (done others : List Level) (told : List Finding) → GoesOn done told
    → IsCodeFault (Dominant ∷ others) (record { kind = Short; place = length (Dominant ∷ others) })
    → Finds 0 (done ++ Dominant ∷ others) (told ++ Fault (length done) Short (length done + length (Dominant ∷ others)) ∷ [])
GoesOn-short done others told on short =
    let front = Dominant ∷ others in
    let skips : SkipsToIdle [] [] = SkipsToIdle-few 0 (omega arith) in
    on front (Fault (length done) Short (length done + length front) ∷ [])
    (Finds.fault (length done) others front [] [] Short [] (sym (append-nil front)) short skips (Finds.over _))

-- if a level shows the fault, it is no end of the levels
pub fault_closed : (place : ℕ) (kind : CodeFaultKind) (front rest : List Level) (level : Level) (fault_place : ℕ) → IsCodeFault (front ++ level ∷ rest) (record { kind = kind; place = length front })
    → is_closed (Fault place kind fault_place) ≡ true
fault_closed place Short front rest level fault_place fault = absurd (omega (arith, fault.kind, length-append front (level ∷ rest)))
fault_closed place NoStartOfFrame front rest level fault_place fault = refl
fault_closed place Stuff front rest level fault_place fault = refl
fault_closed place Crc front rest level fault_place fault = refl
fault_closed place Form front rest level fault_place fault = refl

-- ---- the state of a trace

-- in the search, by the level that comes next
module _ (n : ℕ) (level : Level) (done : List Level) (told : List Finding) (few : n < 11) where
  pub IsLost-dominant : is_recessive level ≡ false → SearchesOn (row n ++ level ∷ []) done told → IsLost 0 (done ++ (row n ++ level ∷ [])) told
  IsLost-dominant is on = by_level level is on
    where
      by_level : (x : Level) → is_recessive x ≡ false → SearchesOn (row n ++ x ∷ []) done told → IsLost 0 (done ++ (row n ++ x ∷ [])) told
      by_level Recessive is on = cc
      by_level Dominant is on = record {
        done = done ++ (row n ++ Dominant ∷ []);
        few = omega arith;
        levels_are = sym (append-nil (done ++ (row n ++ Dominant ∷ [])));
        searches_on = SearchesOn-dominant n done told few on;
      }

  row-with : is_recessive level ≡ true → row n ++ level ∷ [] ≡ row (n + 1)
  row-with is = by_level level is
    where
      by_level : (x : Level) → is_recessive x ≡ true → row n ++ x ∷ [] ≡ row (n + 1)
      by_level Recessive is = row-more n
      by_level Dominant is = cc

  pub IsLost-recessive : is_recessive level ≡ true → n + 1 < 11 → SearchesOn (row n ++ level ∷ []) done told → IsLost (n + 1) (done ++ (row n ++ level ∷ [])) told
  IsLost-recessive is less on = record {
    done = done;
    few = less;
    levels_are = ap (λ l. done ++ l) (row-with is);
    searches_on = subst (λ l. SearchesOn l done told) (row-with is) on;
  }

  pub GoesOn-searched : is_recessive level ≡ true → 11 ≤ n + 1 → SearchesOn (row n ++ level ∷ []) done told → GoesOn (done ++ (row n ++ level ∷ [])) told
  GoesOn-searched is more on =
      let eleven : n + 1 ≡ 11 = omega arith in
      let same : row n ++ level ∷ [] ≡ row 11 = row-with is ∙ ap row eleven in
      subst (λ l. GoesOn (done ++ l) told) (sym same) (GoesOn-eleven done told (subst (λ l. SearchesOn l done told) same on))

-- a trace in this state now
Hearing-now : (old new : Trace) (levels more : List Level) (told found : List Finding) → Hearing old levels told → new.place ≡ old.place + length more
    → Stands new.state (levels ++ more) (told ++ found) → AllByRecursion (λ finding. is_closed finding ≡ true) found → Hearing new (levels ++ more) (told ++ found)
Hearing-now old new levels more told found hearing place stands closed = record {
  place_is = omega (arith, place, hearing.place_is, length-append levels more);
  stands = stands;
  closed = AllByRecursion-append (λ finding. is_closed finding ≡ true) told found hearing.closed closed;
}

none_more : (s : State) (levels : List Level) (told : List Finding) → Stands s levels told → Stands s levels (told ++ [])
none_more s levels told stands = subst (Stands s levels) (sym (append-nil told)) stands

module _ (old new : Trace) (levels : List Level) (told : List Finding) (hearing : Hearing old levels told) where
  -- recessive levels between frames
  pub Hearing-row : (n : ℕ) → old.state ≡ Idle → new.state ≡ Idle → new.place ≡ old.place + n → Hearing new (levels ++ row n) (told ++ [])
  Hearing-row n was is place =
      let on : GoesOn levels told = subst (λ s. Stands s levels told) was hearing.stands in
      Hearing-now old new levels (row n) told [] hearing (omega (arith, place, length-row n))
      (none_more new.state (levels ++ row n) told (subst (λ s. Stands s (levels ++ row n) told) (sym is) (GoesOn-row n levels told on))) tt

  -- levels within a frame
  pub Hearing-run : (more : List Level) → new.place ≡ old.place + length more → (start : ℕ) (decoder decoder_now : DecoderParts) → old.state ≡ InFrame start decoder → new.state ≡ InFrame start decoder_now
      → ((l : List Level) → HasHeard decoder l → HasHeard decoder_now (l ++ more)) → Hearing new (levels ++ more) (told ++ [])
  Hearing-run more place start decoder decoder_now was now goes_on =
      let before : IsInFrame start decoder levels told = subst (λ s. Stands s levels told) was hearing.stands in
      let still : IsInFrame start decoder_now (levels ++ more) told =
      record {
        done = before.done;
        others = before.others ++ more;
        heard = goes_on (Dominant ∷ before.others) before.heard;
        levels_are = ap (λ l. l ++ more) before.levels_are ∙ append_assoc before.done (Dominant ∷ before.others) more;
        start_is = before.start_is;
        goes_on = before.goes_on;
      } in
      Hearing-now old new levels more told [] hearing place (none_more new.state (levels ++ more) told (subst (λ s. Stands s (levels ++ more) told) (sym now) still)) tt

  -- levels after a fault
  pub Hearing-search : (more : List Level) → new.place ≡ old.place + length more → (n m : ℕ) → old.state ≡ Lost n → new.state ≡ Lost m
      → (IsLost n levels told → IsLost m (levels ++ more) told) → Hearing new (levels ++ more) (told ++ [])
  Hearing-search more place n m was now goes_on =
      let still : IsLost m (levels ++ more) told = goes_on (subst (λ s. Stands s levels told) was hearing.stands) in
      Hearing-now old new levels more told [] hearing place (none_more new.state (levels ++ more) told (subst (λ s. Stands s (levels ++ more) told) (sym now) still)) tt

  module _ (level : Level) (place : new.place ≡ old.place + 1) where
    -- a recessive level between frames
    pub Hearing-recessive : old.state ≡ Idle → new.state ≡ Idle → is_recessive level ≡ true → Hearing new (levels ++ level ∷ []) (told ++ [])
    Hearing-recessive was now is = by_level level is
      where
        by_level : (x : Level) → is_recessive x ≡ true → Hearing new (levels ++ x ∷ []) (told ++ [])
        by_level Recessive is = Hearing-row 1 was now place
        by_level Dominant is = cc

    -- a dominant one: a frame begins
    pub Hearing-begun : (decoder : DecoderParts) → old.state ≡ Idle → new.state ≡ InFrame old.place decoder → HasHeard decoder (Dominant ∷ []) → is_recessive level ≡ false
        → Hearing new (levels ++ level ∷ []) (told ++ [])
    Hearing-begun decoder was now heard is =
        let in_frame : (x : Level) → is_recessive x ≡ false → IsInFrame old.place decoder (levels ++ x ∷ []) told = by_level in
        Hearing-now old new levels (level ∷ []) told [] hearing place (none_more new.state (levels ++ level ∷ []) told (subst (λ s. Stands s (levels ++ level ∷ []) told) (sym now) (in_frame level is))) tt
      where
        by_level : (x : Level) → is_recessive x ≡ false → IsInFrame old.place decoder (levels ++ x ∷ []) told
        by_level Recessive is = cc
        by_level Dominant is = record {
          done = levels;
          others = [];
          heard = heard;
          levels_are = refl;
          start_is = hearing.place_is;
          goes_on = subst (λ s. Stands s levels told) was hearing.stands;
        }

    module _ (start : ℕ) (decoder : DecoderParts) (was : old.state ≡ InFrame start decoder) where
      in_frame : IsInFrame start decoder levels told
      in_frame = subst (λ s. Stands s levels told) was hearing.stands

      all_are : levels ++ level ∷ [] ≡ in_frame.done ++ ((Dominant ∷ in_frame.others) ++ level ∷ [])
      all_are = ap (λ l. l ++ level ∷ []) in_frame.levels_are ∙ append_assoc in_frame.done (Dominant ∷ in_frame.others) (level ∷ [])

      -- a level within a frame
      pub Hearing-more : (decoder_now : DecoderParts) → new.state ≡ InFrame start decoder_now → ((l : List Level) → HasHeard decoder l → HasHeard decoder_now (l ++ level ∷ []))
          → Hearing new (levels ++ level ∷ []) (told ++ [])
      Hearing-more decoder_now now more = Hearing-run (level ∷ []) place start decoder decoder_now was now more

      -- the last level of a frame
      pub Hearing-frame : (h : HeardParts) → new.state ≡ Idle → ((l : List Level) → HasHeard decoder l → Spells h (l ++ level ∷ []))
          → Hearing new (levels ++ level ∷ []) (told ++ Frame start h ∷ [])
      Hearing-frame h now spells =
          let w = (Dominant ∷ in_frame.others) ++ level ∷ [] in
          let on : GoesOn (in_frame.done ++ w) (told ++ Frame (length in_frame.done) h ∷ []) = GoesOn-frame in_frame.done w told h in_frame.goes_on (spells (Dominant ∷ in_frame.others) in_frame.heard) in
          let stands : Stands new.state (levels ++ level ∷ []) (told ++ Frame start h ∷ []) =
          subst (λ s. Stands s (levels ++ level ∷ []) (told ++ Frame start h ∷ [])) (sym now)
          (subst (λ l. GoesOn l (told ++ Frame start h ∷ [])) (sym all_are) (subst (λ p. GoesOn (in_frame.done ++ w) (told ++ Frame p h ∷ [])) (sym in_frame.start_is) on)) in
          Hearing-now old new levels (level ∷ []) told (Frame start h ∷ []) hearing place stands (refl, tt)

      -- a level at which a fault shows
      pub Hearing-fault : (kind : CodeFaultKind) → ((l rest : List Level) → HasHeard decoder l → IsCodeFault (l ++ level ∷ rest) (record { kind = kind; place = length l }))
          → ((done : List Level) (found : List Finding) → SearchesOn (level ∷ []) done found → Stands new.state (done ++ level ∷ []) found)
          → Hearing new (levels ++ level ∷ []) (told ++ Fault start kind old.place ∷ [])
      Hearing-fault kind is_fault searched =
          let done = in_frame.done in
          let front = Dominant ∷ in_frame.others in
          let found = told ++ Fault start kind old.place ∷ [] in
          let here : length done + length front ≡ old.place = omega (arith, hearing.place_is, ap length in_frame.levels_are, length-append done front) in
          let at_fault = λ (rest : List Level). is_fault front rest in_frame.heard in
          let on = SearchesOn-fault done in_frame.others level told kind in_frame.goes_on at_fault in
          let on_here : SearchesOn (level ∷ []) (done ++ front) found =
          subst (λ p. SearchesOn (level ∷ []) (done ++ front) (told ++ Fault start kind p ∷ [])) here
          (subst (λ p. SearchesOn (level ∷ []) (done ++ front) (told ++ Fault p kind (length done + length front) ∷ [])) (sym in_frame.start_is) on) in
          let stands : Stands new.state (levels ++ level ∷ []) found = subst (λ l. Stands new.state l found) (append_assoc done front (level ∷ []) ∙ sym all_are) (searched (done ++ front) found on_here) in
          Hearing-now old new levels (level ∷ []) told (Fault start kind old.place ∷ []) hearing place stands (fault_closed start kind front [] level old.place (at_fault []), tt)

-- ---- the end of the levels

module _ (trace : Trace) (levels : List Level) (told : List Finding) (hearing : Hearing trace levels told) where
  pub EndsWith-in_frame : (start : ℕ) (decoder : DecoderParts) → trace.state ≡ InFrame start decoder → EndsWith levels told (Fault start Short trace.place ∷ [])
  EndsWith-in_frame start decoder is =
      let frame : IsInFrame start decoder levels told = subst (λ s. Stands s levels told) is hearing.stands in
      let front = Dominant ∷ frame.others in
      let here : length frame.done + length front ≡ trace.place = omega (arith, hearing.place_is, ap length frame.levels_are, length-append frame.done front) in
      let finds = GoesOn-short frame.done frame.others told frame.goes_on (HasHeard-short decoder front frame.heard) in
      record {
        finds = subst (λ p. Finds 0 levels (told ++ Fault start Short p ∷ [])) here
            (subst (λ p. Finds 0 levels (told ++ Fault p Short (length frame.done + length front) ∷ [])) (sym frame.start_is)
            (subst (λ l. Finds 0 l (told ++ Fault (length frame.done) Short (length frame.done + length front) ∷ [])) (sym frame.levels_are) finds));
        unclosed = refl;
      }

  pub EndsWith-idle : trace.state ≡ Idle → EndsWith levels told []
  EndsWith-idle is =
      let on : GoesOn levels told = subst (λ s. Stands s levels told) is hearing.stands in
      record { finds = subst (λ l. Finds 0 l (told ++ [])) (append-nil levels) (on [] [] (Finds.over (length levels))); unclosed = refl }

  pub EndsWith-lost : (n : ℕ) → trace.state ≡ Lost n → EndsWith levels told []
  EndsWith-lost n is =
      let lost : IsLost n levels told = subst (λ s. Stands s levels told) is hearing.stands in
      record { finds = subst (λ l. Finds 0 l (told ++ [])) (sym lost.levels_are) (SearchesOn-over n lost.done told lost.few lost.searches_on); unclosed = refl }

-- in whatever state they are
pub Hearing-ends : (trace : Trace) (levels : List Level) (told : List Finding) → Hearing trace levels told → (found : List Finding) × EndsWith levels told found
Hearing-ends trace levels told hearing = by_state trace.state refl
  where
    by_state : (s : State) → trace.state ≡ s → (found : List Finding) × EndsWith levels told found
    by_state Idle is = ([], EndsWith-idle trace levels told hearing is)
    by_state (InFrame start decoder) is = (Fault start Short trace.place ∷ [], EndsWith-in_frame trace levels told hearing start decoder is)
    by_state (Lost n) is = ([], EndsWith-lost trace levels told hearing n is)
