-- The lines of an encoder's list: lines and fields (Text), what a line says (Said), and what the parts of its reading leave (Parts).
pub mod Text
pub mod Said
pub mod Parts
