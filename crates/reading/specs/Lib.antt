-- What the numbers of a text are (Text), what is known of a text when a part of it has been read (Fed), and what the small functions
-- promise (Parts).
pub mod Text
pub mod Fed
pub mod Parts
