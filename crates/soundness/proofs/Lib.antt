pub mod Lists
pub mod Lanes
pub mod Tables
pub mod Records
pub mod Whole
