-- The rules of the fields.
pub mod Rules
