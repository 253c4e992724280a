-- "All weights 1 must give exactly today's answers": what the answers were before there were weights, and that they are the same.
pub mod Before
pub mod Ones
