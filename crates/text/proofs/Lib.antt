pub mod Reading
pub mod Splitting
