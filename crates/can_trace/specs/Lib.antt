-- To believe: the definitions in which public calls and laws state what they promise. Those of other crates are
-- exported too.
pub mod ScenarioOffers
pub mod Report
pub mod QuietReport
pub mod OpenReport
pub mod PortTimes
pub use Rattle.can_stream.specs.Told
pub use Rattle.can_stream.specs.Wrapped
pub use Rattle.can_stream.specs.Outbox
pub use Rattle.can_texts.specs.Answered
pub use Rattle.can_texts.specs.Coded
pub use Rattle.can_texts.specs.Checked
pub use Rattle.can_texts.specs.TraceText
pub use Rattle.can_texts.specs.Decoded
pub use Rattle.can_scenario_text.specs.Scenarios
