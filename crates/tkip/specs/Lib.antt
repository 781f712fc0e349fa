pub mod Tkip
pub mod Lawful
pub mod Sealing
