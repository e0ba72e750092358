-- For other crates.
-- the effect of one more level on a front and on the marks after it
pub mod MarkLemmas
pub mod MarkSteps
-- For this crate.
mod Rows
