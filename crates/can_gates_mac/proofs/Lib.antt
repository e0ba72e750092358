-- For this crate: numbers below 16, wires by their fields
pub mod NibbleBits
pub mod ShownFields
-- the rows of each phase are can_mac's move
pub mod Roles
pub mod PhaseMoves
pub mod PartMoves
-- the choice among phases
pub mod Selects
pub mod Dispatch
-- counters, recovery, a bit time
pub mod Counts
pub mod Recovering
pub mod Counted
pub mod Rested
pub mod Next
-- what is driven, and stuffing
pub mod Drives
-- known values
mod Rows
