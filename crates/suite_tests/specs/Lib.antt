pub mod Plain
pub mod Opening
pub mod Lawful
