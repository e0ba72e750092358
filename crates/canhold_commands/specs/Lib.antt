-- To believe: the definitions in which public calls and laws state what they promise
-- of the command line
pub mod Words
pub mod Status
pub mod Answers
-- of documents, and of the output for them
pub mod Documents
pub mod Expectations
pub mod Judgements
pub mod CaseNames
-- of transcripts and verdicts as text
pub mod Transcripts
pub mod Standings
pub mod Verdicts
pub mod Counts
-- of a runner's lines
pub mod Commands
pub mod Adapters
pub mod Plays
-- For private calls only
pub mod Marks
