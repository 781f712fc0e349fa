pub mod Granting
pub mod Tables
