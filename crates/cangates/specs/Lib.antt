-- To believe: the definitions in which public calls and laws state what they promise
pub mod Words
pub mod Ports
pub mod Files
