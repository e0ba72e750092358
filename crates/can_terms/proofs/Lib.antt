-- Used by other crates
pub mod TimedLemmas
-- Times that are looked through
pub mod RisingLemmas
