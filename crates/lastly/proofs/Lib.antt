pub mod CarryLaws
pub mod FrontLaws
pub mod LastLaws
pub mod ExportLaws
