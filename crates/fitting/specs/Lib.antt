-- What is shown of the question whether something fits, by itself and beside the planning calls.
pub mod Fitting
