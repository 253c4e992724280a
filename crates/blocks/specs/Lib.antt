-- The bytes of a plan file, block by block.
pub mod Sizes
pub mod Differ
pub mod Letters
pub mod BlockCheck
pub mod File
pub mod Packed
pub mod Blocks
