-- To believe: the contracts of public calls and laws are stated in these definitions
pub mod Demands
pub mod Values
pub mod Refusals
