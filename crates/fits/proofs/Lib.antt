pub mod RowLaws
pub mod ReachLaws
pub mod ReadLaws
