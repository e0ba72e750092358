-- Each input has one full output.
use Rattle.std.proofs.Common.{◌≡◌, ℕ, false, List, [], ◌∷◌, ◌++◌, length, filter, refl, sym, ap, subst, ◌∙◌, arith}
use Rattle.std.proofs.lemmas.Bool.{false≢true}
use Rattle.std.specs.List.{flat_map}
use Rattle.can_frame.specs.declared.level.Level.{Level}
use Rattle.can_texts.specs.TraceText.{IsTraceText, is_trace_byte, levels_in}
use Rattle.can_texts.specs.Decoded.{DecodesClosed, DecodesLevels, DecodesToBadByte, Finds, FullAnswer, finding_line, is_closed}
use Rattle.can_texts.specs.Decoding.{Hearing}
use Rattle.can_texts.specs.declared.traces.finding.Finding.{Finding}
use Rattle.can_texts.specs.declared.traces.trace.Trace.{Trace}
use Rattle.can_texts.specs.declared.traces.trace.State.TheVariants.{Idle}
use Rattle.can_texts.proofs.FindsOne.{Finds-one}
use Rattle.can_texts.proofs.FindsTotal.{Finds-exist}
use Rattle.can_texts.proofs.DecodeEndings.{HeardSoFar, FullAnswer-later}

pub Finds-some : (place : ℕ) (levels : List Level) → (found : List Finding) × Finds place levels found
Finds-some place levels = Finds-exist (length levels) place levels (omega arith)

-- ---- there is one

pub FullAnswer-some : (input : List ℕ) → (output : List ℕ) × FullAnswer input output
FullAnswer-some input =
    let trace : Trace = record { state = Idle; place = 0 } in
    let begun : Hearing trace [] [] = record { place_is = refl; stands = λ more found finds. finds; closed = tt } in
    let so_far : HeardSoFar trace [] [] = record { is_text = tt; told = []; hearing = begun; lines = refl } in
    FullAnswer-later trace [] [] so_far [] input tt

-- ---- and no other

-- no byte of trace text is bad
unbroken : (text before after : List ℕ) (bad : ℕ) → IsTraceText text → text ≡ before ++ bad ∷ after → is_trace_byte bad ≡ false → ⊥
unbroken [] [] after bad is_text same is_bad = cc
unbroken [] (x ∷ before) after bad is_text same is_bad = cc
unbroken (byte ∷ text) [] after bad is_text same is_bad =
    let here : byte ≡ bad = cc in
    false≢true (sym is_bad ∙ ap is_trace_byte (sym here) ∙ is_text.0)
unbroken (byte ∷ text) (x ∷ before) after bad is_text same is_bad = let others : text ≡ before ++ bad ∷ after = cc in unbroken text before after bad is_text.1 others is_bad

one_front : (a b x y : List ℕ) (p q : ℕ) → a ++ p ∷ x ≡ b ++ q ∷ y → IsTraceText a → IsTraceText b → is_trace_byte p ≡ false → is_trace_byte q ≡ false → a ≡ b
one_front [] [] x y p q same h k p_bad q_bad = refl
one_front [] (z ∷ b) x y p q same h k p_bad q_bad = let here : p ≡ z = cc in absurd (false≢true (sym p_bad ∙ ap is_trace_byte here ∙ k.0))
one_front (z ∷ a) [] x y p q same h k p_bad q_bad = let here : q ≡ z = cc in absurd (false≢true (sym q_bad ∙ ap is_trace_byte here ∙ h.0))
one_front (z ∷ a) (w ∷ b) x y p q same h k p_bad q_bad =
    let here : z ≡ w = cc in
    let others : a ++ p ∷ x ≡ b ++ q ∷ y = cc in
    ap (λ l. z ∷ l) (one_front a b x y p q others h.1 k.1 p_bad q_bad) ∙ ap (λ byte. byte ∷ b) here

one_lines : (levels : List Level) (a b : List ℕ) → DecodesLevels levels a → DecodesLevels levels b → a ≡ b
one_lines levels a b h k = h.lines ∙ ap (flat_map finding_line) (Finds-one 0 levels h.found k.found h.finds k.finds) ∙ sym k.lines

one_closed : (l m : List Level) (a b : List ℕ) → l ≡ m → DecodesClosed l a → DecodesClosed m b → a ≡ b
one_closed l m a b same h k =
    h.lines ∙ ap (λ found. flat_map finding_line (filter is_closed found)) (Finds-one 0 l h.found k.found h.finds (subst (λ l. Finds 0 l k.found) (sym same) k.finds)) ∙ sym k.lines

not_broken : (input output : List ℕ) (place : ℕ) → IsTraceText input → DecodesToBadByte place input output → ⊥
not_broken input output place is_text stops = unbroken input stops.bad.before stops.bad.after stops.bad.bad is_text stops.bad.text_is stops.bad.is_bad

one_stop : (input a b : List ℕ) (p q : ℕ) → DecodesToBadByte p input a → DecodesToBadByte q input b → a ≡ b
one_stop input a b p q h k =
    let same = one_front h.bad.before k.bad.before h.bad.after k.bad.after h.bad.bad k.bad.bad (sym h.bad.text_is ∙ k.bad.text_is) h.bad.good k.bad.good h.bad.is_bad k.bad.is_bad in
    one_closed (levels_in h.bad.before) (levels_in k.bad.before) a b (ap levels_in same) h.decodes k.decodes

pub FullAnswer-one : (input a b : List ℕ) → FullAnswer input a → FullAnswer input b → a ≡ b
FullAnswer-one input a b (FullAnswer.to_end h) (FullAnswer.to_end k) = one_lines (levels_in input) a b h.decodes k.decodes
FullAnswer-one input a b (FullAnswer.to_end h) (FullAnswer.to_limit k) = absurd (omega (arith, h.within, k.long))
FullAnswer-one input a b (FullAnswer.to_end h) (FullAnswer.to_bad_byte q k) = absurd (not_broken input b q h.text k)
FullAnswer-one input a b (FullAnswer.to_limit h) (FullAnswer.to_end k) = absurd (omega (arith, h.long, k.within))
FullAnswer-one input a b (FullAnswer.to_limit h) (FullAnswer.to_limit k) = one_closed (levels_in input) (levels_in input) a b refl h.decodes.decodes k.decodes.decodes
FullAnswer-one input a b (FullAnswer.to_limit h) (FullAnswer.to_bad_byte q k) = absurd (not_broken input b q h.decodes.text k)
FullAnswer-one input a b (FullAnswer.to_bad_byte p h) (FullAnswer.to_end k) = absurd (not_broken input a p k.text h)
FullAnswer-one input a b (FullAnswer.to_bad_byte p h) (FullAnswer.to_limit k) = absurd (not_broken input a p k.decodes.text h)
FullAnswer-one input a b (FullAnswer.to_bad_byte p h) (FullAnswer.to_bad_byte q k) = one_stop input a b p q h k
