pub mod Leading
pub mod Codes
pub mod Emitting
pub mod Short
pub mod Following
