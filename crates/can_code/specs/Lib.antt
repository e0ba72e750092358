-- To believe: the definitions in which public calls and laws state what they promise
pub use Rattle.can_wire.specs.Crc
pub use Rattle.can_wire.specs.Stuffing
pub use Rattle.can_wire.specs.Wire
pub use Rattle.can_wire.specs.Heard
pub use Rattle.can_wire.specs.Layout
pub mod Front
pub mod Sending
pub mod CodeFaults
pub mod Decoder
pub mod Digits
-- For proofs, for models and for private calls only
pub mod Reading
pub mod RunRows
pub mod Unstuffing
pub mod Steps
