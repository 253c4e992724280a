-- The answer of an average plan.
pub mod Reduced
