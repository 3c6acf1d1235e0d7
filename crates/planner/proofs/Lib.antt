pub mod Changing
pub mod Outcomes
pub mod Promise
pub mod Telling
pub mod Solving
pub mod Making
pub mod Following
