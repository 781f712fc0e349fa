pub mod Opened
pub mod Verdicts
pub mod Finishing
