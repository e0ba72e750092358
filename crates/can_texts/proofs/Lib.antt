-- For crates above: the steps of a run over lines
pub mod Answering
-- For this crate.
-- lines of frames: why 33 bytes of a line determine its fault, what is written for lines, the ends of
-- a run
pub mod TextLemmas
pub mod Codings
pub mod Endings
-- lines of vectors: how one is read
pub mod MarkLemmas
pub mod DigitLemmas
pub mod DigitRanges
pub mod DigitFronts
pub mod VectorLemmas
-- why 193 bytes of it are enough
pub mod VectorFronts
-- what is written for its verdict, and that it has one
pub mod VerdictLines
pub mod OneVerdict
-- the steps and the ends of a run
pub mod CheckSteps
pub mod CheckEndings
-- the definitions on a vector that is known from elsewhere
mod RowsOfLines
-- traces: the search for eleven recessive levels
pub mod IdleRows
pub mod SearchSteps
-- a row of digits by the masks of its blocks, and gathered digits
pub mod Blocks
pub mod BlockMasks
pub mod SkippedBytes
pub mod GatheredDigits
-- what one level makes of a trace
pub mod TraceSteps
-- the steps and the ends of a run
pub mod DecodeSteps
pub mod DecodeEndings
-- that all levels have one list of findings, and each input has one full output
pub mod FindsTotal
pub mod FindsOne
pub mod OneDecoding
-- the definitions on traces that are known from elsewhere
mod RowsOfTraces
