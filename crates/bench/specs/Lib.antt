-- What is known of what was read.
pub mod Got
