-- To believe: the definitions in which public calls and laws state what they promise
pub mod Times
pub mod Names
pub mod Plans
pub mod Answers
pub mod Report
pub mod Details
pub mod Worst
pub mod Scenario
pub mod Timelines
pub mod Keeping
pub mod Words
pub mod Status
pub mod Runs
-- For proofs only
pub mod Order
