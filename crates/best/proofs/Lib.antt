pub mod NeedLaws
pub mod TraceLaws
pub mod BestLaws
pub mod FrameLaws
pub mod CallLaws
