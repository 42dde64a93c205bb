pub mod Counting
pub mod Comparing
