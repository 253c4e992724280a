-- The laws of texts that are read in pieces.
pub mod WordLaws
pub mod FeedLaws
pub mod Text
