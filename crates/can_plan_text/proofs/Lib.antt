-- messages as they are sorted by priority, one after another
pub mod InOrder
-- names of their own
pub mod OwnNames
-- a message within its deadline meets it; what analyses need of messages
pub mod Kept
-- the latest frame of each message
pub mod LatestFrames
-- the text of a head
pub mod Heads
-- the parts of a document, read one after another
pub mod PlanParts
-- hand-computed test vectors for the definitions
pub mod Rows
-- worst cases: how long a priority level keeps the bus
pub mod Loads
-- lists, pair by pair and place by place
pub mod Pairs
-- a message's longest frame
pub mod LongestFrames
-- the parts of a worst case
pub mod WorstCases
-- which message has a name
pub mod NamedMessages
-- releases of messages, one message after another
pub mod Runs
-- messages of documents have the right longest time on the bus
pub mod Sizes
-- the releases of a worst case
pub mod Keeping
-- hand-computed test vectors for the times of offers
pub mod WorstCaseRows
