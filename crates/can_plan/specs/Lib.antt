-- To believe: the definitions in which public calls and laws state what they promise
pub mod Messages
pub mod FramesOf
pub mod Ends
pub mod OnBus
pub mod Borne
-- which numbers the analysis gives
pub mod Analysis
pub mod Latest
pub mod Margins
-- For private calls alone
pub mod Carried
pub mod Steps
