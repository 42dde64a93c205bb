pub mod Answers
pub mod Rows
pub mod Table
pub mod Calls
pub mod Sound
pub mod Turns
