pub mod Questions
pub mod Samples
