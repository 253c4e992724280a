-- The laws of blocks as they are written.
pub mod EntryLaws
pub mod EnteredLaws
pub mod PutLaws
