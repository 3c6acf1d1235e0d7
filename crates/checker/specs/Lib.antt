pub mod Refusals
pub mod Checks
pub mod Steps
pub mod Taken
pub mod Stored
