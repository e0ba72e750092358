-- To believe: the definitions in which public calls and laws state what they promise
pub mod Told
pub mod Wrapped
pub mod Outbox
pub mod Lines
-- For proofs only: the effect on buffers of the streams of other crates
pub mod Faults
pub mod Inbox
pub mod LineReader
