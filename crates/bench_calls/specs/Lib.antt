pub mod Built
pub mod Outcome
