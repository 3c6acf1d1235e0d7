pub mod Leads
pub mod Choices
pub mod Written
pub mod Statement
