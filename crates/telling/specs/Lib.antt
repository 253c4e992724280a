-- What goes back to a host.
pub mod Told
pub mod Parts
