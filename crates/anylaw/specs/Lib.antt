-- What holds under one law: of a pass, and of demands 2 and 3.
pub mod Passes
pub mod Demands
