-- To believe: the definitions in which public calls and laws state what they promise
pub mod Subcommands
pub mod Words
pub mod Status
pub mod Answers
-- For proofs and for models only
pub mod Ends
