-- What the searches leave.
pub mod Search
