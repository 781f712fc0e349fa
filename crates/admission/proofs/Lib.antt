pub mod Emptying
pub mod Reading
