pub mod Stores
pub mod Changes
pub mod Rewritten
pub mod ReadBack
pub mod CutOut
