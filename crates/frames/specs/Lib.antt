pub mod Hex
pub mod Reading
pub mod Writing
pub mod Steps
