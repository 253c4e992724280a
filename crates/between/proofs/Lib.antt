pub mod Unique
pub mod Exactly
pub mod Exist
pub mod HiddenLaws
pub mod Calls
