pub mod Errors
pub mod Lines
pub mod Words
