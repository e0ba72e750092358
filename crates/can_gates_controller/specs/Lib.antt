-- To believe: the definitions in which public calls state what they promise
pub mod Fronts
pub mod Holding
pub mod Whole
pub mod Fields
pub mod Steps
pub mod Listed
pub mod Runs
-- For private calls
pub mod Following
pub mod Laying
pub mod Stepped
