-- The laws of imports.
pub mod LeftLaws
pub mod JudgeLaws
pub mod WriteLaws
pub mod ImportLaws
pub mod CarriedLaws
