-- To believe: the definitions in which public calls state what they promise
pub mod Codes
pub mod Words
pub mod Sound
pub mod Hits
pub mod Cases
