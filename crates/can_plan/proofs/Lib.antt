-- lists of releases: tests of fields, and how many there are in a stretch of bit times
pub mod FieldTests
pub mod Counts
-- a window over a course, and what each attempt makes of it
pub mod Windows
pub mod Moves
pub mod Runs
pub mod Sets
pub mod Ends
-- the analysis computes the least bound
pub mod Periods
pub mod Growth
pub mod Bounds
pub mod Carried
pub mod Places
-- and which frame has the bound as its response time, and why
pub mod LatestFrames
-- a network that is asked for less meets the same deadlines
pub mod Margins
-- the definitions on numbers worked out by hand
pub mod Rows
-- the bus: its levels, its logs, and hits that its ports bear
pub mod Logs
pub mod Calls
pub mod BorneHits
-- a course whose frames were released before
pub mod Shifted
