-- For crates above.
-- long division by the generator
pub mod DivisionLemmas
-- stuff places, and how a stuffed list grows at its end
pub mod StuffPlaces
-- the run that a list ends in, and what follows from it for the next stuff bit
pub mod Runs
-- what `stuffed` computes is the stuffed list, and how long it gets
pub mod StuffingLemmas
-- the levels at the places of a list, and what changes when more levels follow
pub mod LayoutPlaces
-- the frame length that a list of levels determines, and its bounds
pub mod LayoutLengths
-- a list of levels has one spelling; how long that of a frame is
pub mod WireLemmas
-- what is heard has one spelling
pub mod SpellingLemmas
-- no spelling begins another
pub mod SpellingFronts
-- For this crate.
-- CRC sequences
pub mod XorLemmas
pub mod Register
-- CRC sequences in numbers
pub mod LevelLemmas
pub mod RegisterWord
pub mod CrcTable
pub mod CrcBytes
pub mod OctetLemmas
pub mod CheckRuns
-- stuffing
pub mod StuffSteps
pub mod OneStuffing
pub mod DrivenDigits
-- the layout of unstuffed levels
pub mod LayoutNumbers
pub mod LayoutBytes
pub mod LayoutHead
pub mod LayoutRead
pub mod FrameNumbers
-- frames and what is heard of them
pub mod StuffedFronts
pub mod PlainLemmas
pub mod PackedLemmas
-- known values
pub mod LayoutRows
pub mod Rows
