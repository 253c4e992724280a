-- The true best of a short series: what the call promises (Best), and what its parts leave each other (Traced).
pub mod Best
pub mod Traced
