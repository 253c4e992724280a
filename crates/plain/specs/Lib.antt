-- A line read in one walk: what its parts leave each other.
pub mod Parts
