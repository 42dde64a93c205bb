pub mod Copies
pub mod Taken
pub mod Fresh
