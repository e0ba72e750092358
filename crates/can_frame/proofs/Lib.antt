-- For crates above.
-- the levels of a number, and the number of levels
pub mod LevelLemmas
pub mod LevelTests
-- levels with the same digits
pub mod LevelDigits
-- which of two lists is before the other
pub mod BeforeLemmas
-- arbitration fields: their order, that none is a prefix of another, and what one determines
pub mod FieldLemmas
-- the hexadecimal digits of a number, and of bytes
pub mod HexDigits
-- a DLC in decimal
pub mod Decimals
-- the bytes of a number, shifted to the front of eight
pub mod DataNumber
-- how long a frame's text is
pub mod TextLengths
-- two frames with one text are equal
pub mod OneText
-- For this crate.
-- keys
pub mod KeyLemmas
-- the arbitration field of a frame of each kind
pub mod FieldRows
pub mod LayoutLemmas
-- the text of a frame
pub mod TextRows
pub mod Leaving
pub mod DigitTable
pub mod ReadDigits
pub mod ReadParts
pub mod TextFronts
pub mod PartsTold
pub mod TextStages
pub mod TextEnds
pub mod Written
pub mod AsciiText
