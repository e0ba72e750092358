-- To believe: the definitions in which public calls and laws state what they promise
pub mod Standings
pub mod Runs
pub mod Transcripts
pub mod Verdicts
-- For proofs and for models only
pub mod Walks
