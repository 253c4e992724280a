-- What the exported functions promise: the number that goes back, and every byte of every lent buffer.
pub mod Surface
