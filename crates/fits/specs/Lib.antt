-- "Can it fit at all?": what is read and what the call promises (Fits), what it is lent (Given), and what its parts leave each other (Reach).
pub mod Fits
pub mod Given
pub mod Reach
