-- an error at an error active controller, and its flag
pub mod Errors
-- a transmitter that samples one of its own bits inverted
pub mod Transmitters
-- the levels that a controller samples
pub mod Sampled
-- the levels of a frame of which one is inverted
pub mod FrameLevels
-- a receiver until it detects an error
pub mod Walks
-- a receiver of a stuffed part
pub mod Parts
-- ten levels after a stuffed part that end a frame
pub mod SpelledParts
-- a receiver after the stuffed part
pub mod AfterPart
-- a receiver of a frame of which one level is inverted
pub mod Receivers
-- a frame as it is sent, of which one level is inverted, at its transmitter and at a receiver
pub mod InvertedFrames
-- known values
pub mod Rows
