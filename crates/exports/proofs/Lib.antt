-- The laws of exports.
pub mod DecimalLaws
pub mod PlaceLaws
pub mod LineLaws
pub mod PutLaws
pub mod CellLaws
pub mod EarlyLaws
pub mod TextLaws
pub mod ExportLaws
