pub mod LegalLaws
pub mod CellTests
pub mod RunLaws
