mod Rule
mod Chain
mod Laying
pub mod Keys
mod Words
