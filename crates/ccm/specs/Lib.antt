pub mod Ccm
pub mod Inner
