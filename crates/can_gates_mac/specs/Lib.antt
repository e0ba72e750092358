-- To believe: the definitions in which public calls state what they promise
pub mod Nibbles
pub mod Numbers
pub mod Shown
pub mod Inputs
pub mod Stepping
pub mod Driving
-- For private calls
pub mod Sensed
pub mod Shows
pub mod Counting
pub mod StepParts
