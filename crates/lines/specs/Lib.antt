pub mod Command
pub mod Inside
pub mod Text
