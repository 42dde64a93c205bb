pub mod Call
pub mod Inside
pub mod Turn
