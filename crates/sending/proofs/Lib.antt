pub mod Deciding
pub mod Cutting
pub mod Laying
pub mod Finishing
