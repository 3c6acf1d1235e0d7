pub mod FirstTen
pub mod FirstLine
pub mod Cutting
pub mod Keeping
pub mod Putting
pub mod ReadBack
pub mod Examples
