-- To believe: the definitions in which public calls and laws state what they promise
pub mod Answered
pub mod Coded
pub mod Checked
pub mod TraceText
pub mod Decoded
-- For proofs and for models only
pub mod Answering
pub mod Checking
pub mod Decoding
