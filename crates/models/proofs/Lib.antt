pub mod Setting
pub mod Shape
pub mod Accepted
pub mod Refusals
pub mod Tables
pub mod Tests
