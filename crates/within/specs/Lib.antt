-- Running totals within a budget: the ways on with what is left of it (Ways), how a row of totals is made (Rows), what a scan and the whole
-- program leave (Filled).
pub mod Ways
pub mod Rows
pub mod Filled
