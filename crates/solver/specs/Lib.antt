pub mod Held
pub mod Ordered
pub mod Solved
pub mod Solves
pub mod Tries
pub mod Tabled
