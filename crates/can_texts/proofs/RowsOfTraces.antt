-- The definitions of what is written for a trace, computed on a few values that are known from elsewhere.
use Rattle.std.proofs.Common.{◌≡◌, ℕ, List, [], ◌∷◌, ◌++◌, Bool, true, ◌&&◌, refl, sym, ap, ◌∙◌, subst, arith}
use Rattle.std.specs.Prelude.{codes}
use Rattle.can_frame.specs.declared.level.Level.TheVariants.{Dominant}
use Rattle.can_frame.specs.Levels.{bits_of}
use Rattle.can_frame.specs.Text.{frame_text}
use Rattle.std.proofs.lemmas.Bool.{and_parts}
use Rattle.std.proofs.lemmas.Fmt.{decimal_digit}
use Rattle.std.proofs.lemmas.List.{append-nil}
use Rattle.can_code.specs.declared.fault.CodeFaultKind.TheVariants.{Stuff}
use Rattle.can_wire.specs.Crc.{crc_of}
use Rattle.can_wire.specs.Stuffing.{stuffed}
use Rattle.can_wire.specs.Heard.{HeardParts, Spells, heard_head, sent, spelling}
use Rattle.can_wire.specs.Layout.{frame_len}
use Rattle.can_code.specs.Decoder.{HasHeard}
use Rattle.can_wire.proofs.SpellingLemmas.{Spells-spelling}
use Rattle.can_code.proofs.DecoderLemmas.{HasHeard-stuff}
use Rattle.can_stream.proofs.KnownFrame.{frame_001, frame_001-whole, text_001}
use Rattle.can_texts.specs.TraceText.{IsTraceText, is_trace_byte, levels_in}
use Rattle.can_texts.specs.Decoded.{DecodesAll, Finds, finding_line}
use Rattle.can_texts.specs.declared.traces.finding.Finding.TheVariants.{Frame, Fault}
use Rattle.can_texts.proofs.IdleRows.{row, SkipsToIdle-dominant, SkipsToIdle-eleven}

-- whether each byte passes a test
abbrev all : (ℕ → Bool) → List ℕ → Bool
all test [] = true
all test (byte ∷ text) = test byte && all test text

abbrev trace_001 : List ℕ
trace_001 = codes "0000010000010100000100010001000010011 1011111111\n"

abbrev heard_001 : HeardParts
heard_001 = sent frame_001

spelled_001 : spelling heard_001 ≡ levels_in trace_001
unfolding spelling stuffed crc_of heard_head bits_of
spelled_001 = refl

spells_001 : Spells heard_001 (levels_in trace_001)
spells_001 = subst (Spells heard_001) spelled_001 (Spells-spelling heard_001 (record { frame = frame_001-whole; srr = λ _. refl; r1 = λ _. refl }))

line_001 : finding_line (Frame 0 heard_001) ≡ codes "0 S 001 D 0 ack\n"
unfolding finding_line
line_001 =
    ap (λ d. d ++ (codes " " ++ (frame_text frame_001 ++ codes " ack\n"))) (decimal_digit 0 (omega arith)) ∙ ap (λ t. codes "0 " ++ (t ++ codes " ack\n")) text_001

IsTraceText-test : (text : List ℕ) → all is_trace_byte text ≡ true → IsTraceText text
IsTraceText-test [] good = tt
IsTraceText-test (byte ∷ text) good = let both = and_parts (is_trace_byte byte) (all is_trace_byte text) good in (both.0, IsTraceText-test text both.1)

decodes_001 : DecodesAll trace_001 (codes "0 S 001 D 0 ack\n")
decodes_001 = record {
  within = omega arith;
  text = IsTraceText-test trace_001 refl;
  decodes = record {
    found = Frame 0 heard_001 ∷ [];
    finds = Finds.frame 0 heard_001 (levels_in trace_001) [] [] spells_001 (Finds.over 47);
    lines = sym line_001 ∙ sym (append-nil (finding_line (Frame 0 heard_001)));
  };
}

-- six dominant levels and then eleven recessive ones
five_heard : HasHeard (record { front = record { unstuffed = Dominant ∷ Dominant ∷ Dominant ∷ Dominant ∷ Dominant ∷ []; last = Dominant; run = 5 }; behind = [] })
    (Dominant ∷ Dominant ∷ Dominant ∷ Dominant ∷ Dominant ∷ [])
unfolding frame_len
five_heard = record {
  part = Dominant ∷ Dominant ∷ Dominant ∷ Dominant ∷ [];
  whole = refl;
  front = refl;
  behind = λ ended. cc;
  none = λ _. refl;
}

finds_fault : Finds 0 (levels_in (codes "000000 11111111111")) (Fault 0 Stuff 5 ∷ [])
finds_fault =
    let five = Dominant ∷ Dominant ∷ Dominant ∷ Dominant ∷ Dominant ∷ [] in
    Finds.fault 0 (Dominant ∷ Dominant ∷ Dominant ∷ Dominant ∷ Dominant ∷ row 11) five (Dominant ∷ row 11) [] Stuff [] refl
    (HasHeard-stuff _ five five_heard (λ ended. cc) Dominant (row 11) refl) (SkipsToIdle-dominant 0 (row 11) [] (omega arith) (SkipsToIdle-eleven [])) (Finds.over 17)
