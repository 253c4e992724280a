-- The laws of the surface.
pub mod CarryLaws
pub mod LentLaws
pub mod Settled
