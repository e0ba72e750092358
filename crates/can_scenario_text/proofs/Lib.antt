pub mod ScenarioParts
pub mod ScenarioRows
pub mod HitLemmas
pub mod OneScenario
