pub mod Quads
pub mod Rounds
pub mod Rules
