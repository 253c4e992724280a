pub mod Unique
pub mod Full
pub mod Read
pub mod Exist
