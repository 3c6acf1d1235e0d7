pub mod Faults
pub mod Forms
pub mod Texts
pub mod Outcomes
pub mod Undo
