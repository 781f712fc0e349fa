pub mod Addresses
pub mod Headers
