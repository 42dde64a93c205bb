pub mod Before
pub mod Entries
pub mod Putting
pub mod Texts
