-- What a sequence comes to.
pub mod Walked
