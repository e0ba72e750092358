-- To believe: the definitions in which public calls and laws state what they promise
pub mod Scenarios
-- For proofs and for models only
pub mod ScenarioProps
