mod Everywhere
pub mod Additional
pub mod Blocks
pub mod Cipher
pub mod Covering
pub mod Exact
pub mod Finishing
pub mod Kept
pub mod Stream
pub mod Words
