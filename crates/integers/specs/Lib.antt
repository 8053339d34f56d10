pub mod Gcd
pub mod Lists
pub mod Signs
pub mod Limits
