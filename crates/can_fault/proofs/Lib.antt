-- For this crate.
-- the recessive runs of a list of levels, and the occurrences in them
pub mod RunLemmas
-- what a node holds while it is bus off
pub mod RecoveryLemmas
-- known values
mod Rows
