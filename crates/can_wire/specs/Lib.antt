-- To believe: the definitions in which public calls and laws state what they promise
pub mod Crc
pub mod Stuffing
pub mod Wire
pub mod Heard
pub mod Layout
-- For proofs only
pub mod StuffSteps
pub mod PackedNumbers
pub mod FrameNumber
