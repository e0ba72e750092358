-- In all levels something is found, be it nothing at all.
use Rattle.std.proofs.Common.{◌≡◌, inl, inr, ℕ, zero, suc, ◌+◌, ◌<◌, ◌≤◌, List, [], ◌∷◌, ◌++◌, length, refl, sym, ap, subst, ◌∙◌, append_assoc, arith, length-append}
use Rattle.std.proofs.lemmas.Bool.{cases_lt}
use Rattle.can_frame.specs.declared.level.Level.{Level}
use Rattle.can_frame.specs.declared.level.Level.TheVariants.{Dominant, Recessive}
use Rattle.can_wire.specs.Wire.{tail}
use Rattle.can_wire.specs.Heard.{HeardParts, ack_slot, Spells}
use Rattle.can_texts.specs.Decoded.{Finds, SkipsToIdle}
use Rattle.can_texts.specs.Decoding.{Stands, Hearing}
use Rattle.can_texts.specs.declared.traces.finding.Finding.{Finding}
use Rattle.can_texts.specs.declared.traces.finding.Finding.TheVariants.{Frame, Fault}
use Rattle.can_texts.specs.declared.traces.trace.Trace.{Trace}
use Rattle.can_texts.specs.declared.traces.trace.State.{State}
use Rattle.can_texts.specs.declared.traces.trace.State.TheVariants.{Idle, InFrame, Lost}
use Rattle.can_code.proofs.FrameOrFault.{frame_or_fault, HasFault}
use Rattle.can_texts.proofs.IdleRows.{row, row-more, SkipsToIdle-dominant, SkipsToIdle-eleven, SkipsToIdle-few}

-- the end of the search for eleven recessive levels, in a row of which n have been taken
record Skips (n : ℕ) (levels : List Level) : Type 0 where
  skipped : List Level
  rest : List Level
  whole : row n ++ levels ≡ skipped ++ rest
  skips : SkipsToIdle skipped rest

Skips-exist : (levels : List Level) (n : ℕ) → n < 11 → Skips n levels
Skips-exist [] n few = record { skipped = row n; rest = []; whole = refl; skips = SkipsToIdle-few n few }
Skips-exist (Dominant ∷ levels) n few =
    let begun = row n ++ Dominant ∷ [] in
    let later = Skips-exist levels 0 (omega arith) in
    record {
      skipped = begun ++ later.skipped;
      rest = later.rest;
      whole = sym (append_assoc (row n) (Dominant ∷ []) levels) ∙ ap (λ l. begun ++ l) later.whole ∙ sym (append_assoc begun later.skipped later.rest);
      skips = SkipsToIdle-dominant n later.skipped later.rest few later.skips;
    }
Skips-exist (Recessive ∷ levels) n few =
    let one_more : row n ++ Recessive ∷ levels ≡ row (n + 1) ++ levels = sym (append_assoc (row n) (Recessive ∷ []) levels) ∙ ap (λ l. l ++ levels) (row-more n) in
    elim (cases_lt (n + 1) 11) [
      | inl less ↦ longer (n + 1) one_more (Skips-exist levels (n + 1) less)
      | inr all ↦ let eleven : n + 1 ≡ 11 = omega arith in record {
        skipped = row 11;
        rest = levels;
        whole = one_more ∙ ap (λ k. row k ++ levels) eleven;
        skips = SkipsToIdle-eleven levels;
      }
    ]
  where
    longer : (k : ℕ) → row n ++ Recessive ∷ levels ≡ row k ++ levels → Skips k levels → Skips n (Recessive ∷ levels)
    longer k same later = record { skipped = later.skipped; rest = later.rest; whole = same ∙ later.whole; skips = later.skips }

pub Finds-exist : (n place : ℕ) (levels : List Level) → length levels ≤ n → (found : List Finding) × Finds place levels found
Finds-exist n place [] within = ([], Finds.over place)
Finds-exist zero place (level ∷ levels) within = absurd (omega arith)
Finds-exist (suc n) place (Recessive ∷ levels) within = let later = Finds-exist n (place + 1) levels (omega arith) in (later.0, Finds.idle place levels later.0 later.1)
Finds-exist (suc n) place (Dominant ∷ levels) within = elim (frame_or_fault levels) [
  | inl begins ↦ spelled_there begins.h begins.w begins.rest begins.spells begins.whole (Finds-exist n (place + length begins.w) begins.rest)
  | inr has ↦ fault_there has (Finds-exist n)
]
  where
    spelled_there : (h : HeardParts) (w rest : List Level) → Spells h w → Dominant ∷ levels ≡ w ++ rest
        → (length rest ≤ n → (found : List Finding) × Finds (place + length w) rest found) → (found : List Finding) × Finds place (Dominant ∷ levels) found
    spelled_there h w rest spells whole on =
        let ten = tail (ack_slot h.acked) h.last in
        let some : 0 < length w = omega (arith, ap length spells.spelling.whole, length-append spells.spelling.stuffed ten) in
        let later = on (omega (arith, within, ap length whole, length-append w rest)) in
        (Frame place h ∷ later.0, subst (λ l. Finds place l (Frame place h ∷ later.0)) (sym whole) (Finds.frame place h w rest later.0 spells later.1))

    fault_there : HasFault (Dominant ∷ levels) → ((p : ℕ) (l : List Level) → length l ≤ n → (found : List Finding) × Finds p l found)
        → (found : List Finding) × Finds place (Dominant ∷ levels) found
    fault_there has on =
        let front = has.front in
        let search = Skips-exist has.rest 0 (omega arith) in
        let all : Dominant ∷ levels ≡ front ++ (search.skipped ++ search.rest) = has.whole ∙ ap (λ l. front ++ l) search.whole in
        let shorter : length search.rest ≤ n =
        omega (arith, within, has.some, ap length all, length-append front (search.skipped ++ search.rest), length-append search.skipped search.rest) in
        let later = on (place + length (front ++ search.skipped)) search.rest shorter in
        (Fault place has.kind (place + length front) ∷ later.0, Finds.fault place levels front search.skipped search.rest has.kind later.0 all has.fault search.skips later.1)

-- whatever levels come, they have findings after those so far
pub Hearing-goes_on : (trace : Trace) (levels : List Level) (told : List Finding) → Hearing trace levels told → (more : List Level) → (found : List Finding) × Finds 0 (levels ++ more) (told ++ found)
Hearing-goes_on trace levels told hearing more = by_state trace.state hearing.stands
  where
    by_state : (s : State) → Stands s levels told → (found : List Finding) × Finds 0 (levels ++ more) (told ++ found)
    by_state Idle on = let later = Finds-exist (length more) (length levels) more (omega arith) in (later.0, on more later.0 later.1)
    by_state (InFrame start decoder) frame =
        let front = Dominant ∷ frame.others in
        let later = Finds-exist (length (front ++ more)) (length frame.done) (front ++ more) (omega arith) in
        let whole : frame.done ++ (front ++ more) ≡ levels ++ more = sym (append_assoc frame.done front more) ∙ ap (λ l. l ++ more) (sym frame.levels_are) in
        (later.0, subst (λ l. Finds 0 l (told ++ later.0)) whole (frame.goes_on (front ++ more) later.0 later.1))
    by_state (Lost n) lost =
        let search = Skips-exist more n lost.few in
        let later = Finds-exist (length search.rest) (length (lost.done ++ search.skipped)) search.rest (omega arith) in
        let whole : lost.done ++ (search.skipped ++ search.rest) ≡ levels ++ more =
        ap (λ l. lost.done ++ l) (sym search.whole) ∙ sym (append_assoc lost.done (row n) more) ∙ ap (λ l. l ++ more) (sym lost.levels_are) in
        (later.0, subst (λ l. Finds 0 l (told ++ later.0)) whole (lost.searches_on more search.skipped search.rest later.0 search.whole search.skips later.1))
