pub mod Images
pub mod Before
pub mod Promises
pub mod Turns
pub mod Counting
pub mod HandingOn
pub mod HandedOn
pub mod Reached
