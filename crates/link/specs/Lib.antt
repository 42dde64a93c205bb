pub mod Count
pub mod Operations
