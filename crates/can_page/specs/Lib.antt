-- To believe: the definitions in which public calls state what they promise
pub mod Answers
pub mod Codes
pub mod Calls
pub mod Lines
pub mod Plain
-- For models only
pub mod Texts
