-- The laws of lines.
pub mod LineLaws
pub mod FieldLaws
pub mod ContentLaws
pub mod SaidLaws
