-- What a plan file says of an average and of a minmax plan.
pub mod Filing
