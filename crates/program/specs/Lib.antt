pub mod Faults
pub mod Lines
pub mod Outputs
pub mod Runs
pub mod Statement
pub mod Labels
