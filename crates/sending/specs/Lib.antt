pub mod Outgoings
pub mod Sent
