pub mod Said
pub mod Unpacked
