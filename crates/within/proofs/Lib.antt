pub mod RowLaws
pub mod ScanLaws
pub mod WayLaws
pub mod FillLaws
