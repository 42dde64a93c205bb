pub mod SoundImage
pub mod Parts
