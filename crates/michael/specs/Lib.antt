pub mod Michael
pub mod Stages
