-- The rule of an entry.
pub mod Entries
