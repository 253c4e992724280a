-- Document 01's tables as problems, its refusals and its bench tables. Nothing here knows how a plan is found.
pub mod Limits
pub mod Law
pub mod Series
pub mod Tables
pub mod Legal
pub mod Refusals
pub mod Bench
