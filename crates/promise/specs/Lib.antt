-- What the planning calls promise.
pub mod Answers
pub mod Promise
pub mod Says
