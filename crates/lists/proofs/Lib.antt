-- The laws of encoders' lists.
pub mod DecimalLaws
pub mod LineOfLaws
pub mod ExportLaws
pub mod ImportedLaws
pub mod CellLaws
pub mod CallLaws
