-- What the promises of the planning calls settle.
pub mod Unique
pub mod Exactly
pub mod Verdict
pub mod Demands
pub mod Sizes
pub mod Moves
pub mod HiddenLaws
pub mod Exist
