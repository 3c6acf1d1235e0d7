pub mod Sets
pub mod Rows
pub mod Products
pub mod Order
