pub mod Tables
pub mod Fair
pub mod Refusals
pub mod Changes
pub mod Asked
pub mod Members
pub mod Within
