-- What the parts of the planning calls leave each other.
pub mod Given
