pub mod Put
pub mod Written
