-- The calls whose answer buffer is the last thing asked for.
pub mod Lastly
