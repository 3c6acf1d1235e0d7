pub mod Names
pub mod Sample
