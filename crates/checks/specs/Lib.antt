-- When a call is refused: the checks in document 01's order, and what passing them tells.
pub mod Checks
pub mod Planning
pub mod Stages
pub mod Fit
pub mod Given
