-- Plan files: what the reader and the writer promise, and what demand 2 says of both.
pub mod Reading
pub mod Writing
pub mod Sentence
