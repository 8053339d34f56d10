pub mod Outcomes
pub mod Sets
pub mod Stores
