-- The laws of the lines.
pub mod DecimalLaws
pub mod PutsLaws
pub mod TextLaws
pub mod Examples
