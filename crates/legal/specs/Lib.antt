-- What the legality check answers, of all cells and of a run of them; what the parts of the walk leave each other.
pub mod Judged
pub mod Parts
