-- For this crate: the front of a frame
pub mod FrontPlaces
pub mod Lengths
-- the CRC sequence
pub mod Checks
-- what a bit time makes of a frame, by the phase
pub mod Follows
pub mod Phases
-- a sender's frame
pub mod Own
pub mod Owned
-- a frame by its fields
pub mod WordParts
pub mod TurnedLevels
pub mod Cleared
pub mod Laid
pub mod Told
pub mod FieldRows
-- what is so in each state
pub mod Settled
pub mod LegalStates
pub mod OwnLegal
-- steps and runs
pub mod Taking
pub mod StepsTaken
pub mod RunsOf
pub mod ListedLemmas
pub mod ListPlaces
-- known values
mod Rows
