-- A text in a lent buffer.
pub mod Put
