pub mod Clipped
pub mod Turns
