-- The least of a row of candidates.
pub mod Row
