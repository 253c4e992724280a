-- Import of an encoder's list: what it gives (Import), what its parts leave each other (Parts), and the lines that are left of a text (Left).
pub mod Import
pub mod Parts
pub mod Left
