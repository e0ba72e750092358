-- the names of the cases before one
pub mod NamesBefore
-- For this crate only
-- the levels of a text, piece by piece
pub mod ReadPieces
pub mod ReadTexts
-- which event a text has, and that it has at most one
pub mod EventTexts
pub mod OneEvent
-- elements with their times, and that these rise
pub mod InTime
pub mod Rising
-- strings of levels
pub mod LevelStrings
-- choices, names and needs, and that words determine the needs
pub mod WordLists
pub mod OneNeeds
-- that strings determine one list of levels
pub mod TesterParts
-- forced bit times
pub mod ForcedTimes
-- the parts of a case one after another, and that a table describes at most one case
pub mod CaseParts
pub mod OneCase
-- the first table with a text, and the numbers of cases by name
pub mod Places
pub mod UntoldPlaces
-- the parts of a transcript one after another, and that a table describes at most one transcript
pub mod DroveParts
pub mod TellingParts
pub mod OneTranscript
