pub mod Owners
pub mod Placing
pub mod Owned
pub mod Laying
