pub mod ClosedLaws
pub mod SquareLaws
pub mod ChoiceLaws
pub mod StepLaws
pub mod Onward
pub mod Rows
pub mod PassLaws
pub mod MadeLaws
