mod Comparing
pub mod Numbers
pub mod Tables
pub mod Widths
pub mod Words
pub mod Writing
