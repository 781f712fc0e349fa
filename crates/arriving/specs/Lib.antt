pub mod Gathering
pub mod Outcomes
