pub mod Lists
pub mod Unsigned
pub mod Laws
