pub mod OneKeyLaws
pub mod BesideLaws
