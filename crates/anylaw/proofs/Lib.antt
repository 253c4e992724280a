-- Demands 2 and 3, once over any law.
pub mod AnyLaw
