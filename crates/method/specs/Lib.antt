pub mod Method
pub mod Due
pub mod Entry
pub mod Delays
pub mod Shadows
pub mod Sides
