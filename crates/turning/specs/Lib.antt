pub mod Inside
pub mod Program
pub mod Turn
