pub mod Sums
pub mod Common
pub mod Fits
pub mod Nonzero
