-- What is shown of the call for the true best, by itself and beside the call for an average plan.
pub mod Between
