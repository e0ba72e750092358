-- To believe: the definitions in which public calls and laws state what they promise
pub mod Events
pub mod Names
pub mod LevelTokens
pub mod LevelTexts
pub mod CaseWords
pub mod Lists
pub mod Cases
pub mod Elements
pub mod Transcripts
-- For private calls and ghost fields only
pub mod NameSets
pub mod Untold
