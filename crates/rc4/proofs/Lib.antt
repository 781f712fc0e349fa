pub mod Covering
pub mod Stream
pub mod Tables
