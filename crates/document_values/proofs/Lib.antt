pub mod DemandLemmas
pub mod ReadLists
pub mod ReadValues
pub mod Pairs
pub mod OneReading
pub mod OneRefusal
