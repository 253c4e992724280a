-- The lines that bench writes, byte by byte (Lines), and what putting a text leaves (Puts).
pub mod Lines
pub mod Puts
