-- To believe: the definitions in which public calls and laws state what they promise
pub mod Statuses
pub mod Owned
pub mod Codes
pub mod PlainFrames
pub mod PlainStandings
pub mod BitTimes
pub mod PlainInputs
pub mod PlainWires
pub mod Play
pub mod Calls
