pub mod Called
pub mod LineByLine
pub mod LinesPut
pub mod Ran
pub mod Honesty
pub mod Naming
