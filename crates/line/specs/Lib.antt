pub mod PlainLine
pub mod History
pub mod Demand3
pub mod Corollaries
pub mod LetIn
pub mod Mixed
