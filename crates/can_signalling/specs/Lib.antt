-- To believe: the definitions in which the laws state what they promise
pub mod Signalling
