-- What an import of an export gives back.
pub mod Shown
pub mod Again
pub mod Calls
