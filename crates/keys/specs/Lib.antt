-- One number in place of two: document 01 compares a cost and then a rate, or a rate and then a distortion.
pub mod OneKey
