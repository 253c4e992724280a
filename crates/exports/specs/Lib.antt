-- Export of the two tables as an encoder's list.
pub mod Export
pub mod Parts
pub mod Shown
