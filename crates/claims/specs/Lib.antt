pub mod Claims
pub mod Turns
