-- One pass over the scans: the choices (Choices), what one scan leaves (Stepped), what a pass is made of (Made), and what it leaves (Pass).
pub mod Choices
pub mod Square
pub mod Stepped
pub mod Made
pub mod Pass
