-- To believe: the definitions in which public calls and laws state what they promise
pub mod Ports
pub mod Waiting
pub mod Listening
pub mod Passing
-- For proofs and for models only
pub mod MacProps
pub mod Tournament
