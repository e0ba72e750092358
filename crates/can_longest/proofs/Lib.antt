-- levels one by one, and what comes at most
pub mod Steps
pub mod CheckSums
pub mod Greatest
pub mod Turned
-- frames
pub mod Headers
pub mod Frames
pub mod Chosen
-- the table
pub mod Places
