-- The laws of a plain line.
pub mod DigitLaws
pub mod PlainLaws
