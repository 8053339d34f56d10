pub mod Clearing
pub mod Counts
pub mod Givens
pub mod Only
pub mod Over
