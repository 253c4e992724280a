pub mod SeekLaws
pub mod StartLaws
