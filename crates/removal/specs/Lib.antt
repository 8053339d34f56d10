pub mod Removal
pub mod Exact
pub mod Pairs
pub mod Alone
