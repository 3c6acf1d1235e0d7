pub mod Kinds
pub mod Models
pub mod Clocks
pub mod Counts
pub mod Fetches
pub mod Shown
pub mod Prices
pub mod Bytes
