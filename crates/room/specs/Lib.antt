-- Document 01, "Room".
pub mod Room
