-- The laws of plan files.
pub mod FieldLaws
pub mod HeaderLaws
pub mod EntryLaws
pub mod Answers
pub mod Back
pub mod Lent
pub mod Accepted
pub mod Both
pub mod ReadLaws
pub mod WriteLaws
