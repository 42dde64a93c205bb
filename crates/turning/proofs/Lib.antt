pub mod Blocks
pub mod Ending
pub mod Feeding
