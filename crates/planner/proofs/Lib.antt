pub mod PromiseLaws
pub mod MinmaxLaws
pub mod AverageLaws
