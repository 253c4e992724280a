-- What passes, the start and the end of a call leave.
pub mod Sought
pub mod Started
