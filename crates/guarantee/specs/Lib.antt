pub mod Promise
pub mod Marked
pub mod Returned
