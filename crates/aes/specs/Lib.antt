pub mod Aes
pub mod Words
