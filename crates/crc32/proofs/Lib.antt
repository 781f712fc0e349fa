pub mod Division
pub mod Octets
pub mod Table
