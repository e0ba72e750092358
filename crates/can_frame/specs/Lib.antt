-- To believe: the definitions in which public calls and laws state what they promise
pub mod Levels
pub mod IdleRow
pub mod Ident
pub mod Parts
pub mod Arbitration
pub mod Text
-- For proofs and for models only
pub mod Stored
pub mod LevelNumbers
pub mod KeyBits
pub mod Kept
pub mod TextParts
