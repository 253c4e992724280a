-- Numbers and half bytes.
pub mod Bytes
