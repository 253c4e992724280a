pub mod RangeLaws
pub mod CheckLaws
pub mod GiveLaws
pub mod StageLaws
pub mod PlanningLaws
pub mod FitLaws
pub mod GivenLaws
