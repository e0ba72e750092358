pub mod Walks
pub mod Parses
pub mod Faults
pub mod Runs
