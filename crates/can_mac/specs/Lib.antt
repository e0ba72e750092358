-- To believe: the definitions in which public calls and laws state what they promise
pub mod State
pub mod Moves
pub mod Machine
pub mod Frames
-- For speed: which levels the fast paths take
pub mod Quick
