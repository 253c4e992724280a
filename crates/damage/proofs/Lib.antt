-- One byte changed, or two exchanged, is refused.
pub mod SoundLaws
pub mod TiltLaws
pub mod PlaceLaws
pub mod Refused
pub mod Changed
pub mod Renamed
