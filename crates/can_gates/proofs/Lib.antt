-- For crates above: what is known of signal 0, of words at a place, of lines of numbers, and of names that are read back
pub mod Bools
pub mod Constants
pub mod WordNumbers
pub mod AigerLines
pub mod Tested
-- For this crate
pub mod KeptGates
pub mod Running
pub mod Lacks
pub mod WordPlaces
pub mod SumPlaces
pub mod OrderPlaces
pub mod Halves
pub mod Rows
mod Blocks
mod Reading
mod Proper
mod Modules
mod Groups
mod NamesRead
mod FilesRead
mod Pieces
mod FileRows
