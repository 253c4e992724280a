-- Laws that several crates cite.
pub mod Tests
pub mod Lists
pub mod Stores
pub mod PutLaws
