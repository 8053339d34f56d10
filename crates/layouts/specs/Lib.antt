pub mod Layouts
pub mod Parts
