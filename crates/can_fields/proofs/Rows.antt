-- Rows that were worked out by hand: what each level is.
use Rattle.std.proofs.Common.{◌≡◌, ℕ, ◌%◌, List, [], ◌∷◌, ◌++◌, map, refl}
use Rattle.std.specs.Prelude.{codes, replicate}
use Rattle.can_frame.specs.declared.level.Level.{Level}
use Rattle.can_frame.specs.Levels.{level_of}
use Rattle.can_fields.specs.declared.field.Field.TheVariants.{StartOfFrame, Identifier, RemoteOrSubstitute, RemoteRequest, SubstituteRequest, IdentifierExtension, ReservedOne, ReservedZero, DataLength, Data, CheckSequence, CheckDelimiter, AckSlot, AckDelimiter, EndOfFrame}
use Rattle.can_fields.specs.declared.mark.Mark.{Mark}
use Rattle.can_wire.specs.Layout.{frame_len}
use Rattle.can_fields.specs.Marks.{bit_of, stuff_bit_of, marks_of}

-- levels from digits: 48 is the code of `0`
abbrev levels : List ℕ → List Level
levels digits = map (λ c. level_of (c % 48)) digits

-- the marks of the end of each frame
abbrev tail : List Mark
tail = bit_of CheckDelimiter ∷ bit_of AckSlot ∷ bit_of AckDelimiter ∷ replicate 7 (bit_of EndOfFrame)

-- four bits and a stuff bit of the CRC sequence
abbrev five_checks : List Mark
five_checks = replicate 5 (bit_of CheckSequence) ++ stuff_bit_of CheckSequence ∷ []

-- `S 000 D 0`
standard : marks_of (levels (codes "00000100000100000100000100000100000100001111111111"))
    ≡ bit_of StartOfFrame ∷ (replicate 4 (bit_of Identifier) ++ stuff_bit_of Identifier ∷ (replicate 5 (bit_of Identifier) ++ stuff_bit_of Identifier ∷ (replicate 2 (bit_of Identifier)
    ++ bit_of RemoteRequest ∷ bit_of IdentifierExtension ∷ bit_of ReservedZero ∷ stuff_bit_of ReservedZero ∷ (replicate 4 (bit_of DataLength)
    ++ bit_of CheckSequence ∷ stuff_bit_of CheckSequence ∷ (five_checks ++ (five_checks ++ (replicate 4 (bit_of CheckSequence) ++ tail)))))))
unfolding marks_of frame_len
standard = refl

-- `E 15555555 D 1 aa`, with alternating levels as its CRC sequence
extended : marks_of (levels (codes "0101010101011101010101010101010100000101101010101010101010101011011111111"))
    ≡ bit_of StartOfFrame ∷ (replicate 11 (bit_of Identifier) ++ bit_of SubstituteRequest ∷ bit_of IdentifierExtension ∷ (replicate 18 (bit_of Identifier)
    ++ bit_of RemoteRequest ∷ bit_of ReservedOne ∷ bit_of ReservedZero ∷ bit_of DataLength ∷ bit_of DataLength ∷ stuff_bit_of DataLength ∷ bit_of DataLength ∷ bit_of DataLength ∷ (replicate 8 (bit_of Data)
    ++ (replicate 15 (bit_of CheckSequence) ++ tail))))
unfolding marks_of frame_len
extended = refl

-- a remote frame has no data, whatever its data length code
remote : marks_of (levels (codes "01010101010110010001010101010101011011111111"))
    ≡ bit_of StartOfFrame ∷ (replicate 11 (bit_of Identifier) ++ bit_of RemoteRequest ∷ bit_of IdentifierExtension ∷ bit_of ReservedZero ∷ (replicate 4 (bit_of DataLength)
    ++ (replicate 15 (bit_of CheckSequence) ++ tail)))
unfolding marks_of frame_len
remote = refl

-- a wrong stuff bit: no marks after it
wrong : marks_of (levels (codes "0000001111")) ≡ bit_of StartOfFrame ∷ (replicate 4 (bit_of Identifier) ++ stuff_bit_of Identifier ∷ [])
unfolding marks_of frame_len
wrong = refl

-- the levels end before the IDE bit
short : marks_of (levels (codes "0101010101010")) ≡ bit_of StartOfFrame ∷ (replicate 11 (bit_of Identifier) ++ bit_of RemoteOrSubstitute ∷ [])
unfolding marks_of frame_len
short = refl

-- no start of frame
none : marks_of (levels (codes "1000")) ≡ []
unfolding marks_of frame_len
none = refl
