pub mod ByStage
pub mod Events
pub mod Every
pub mod Refusing
pub mod SoundCalls
pub mod Soundly
pub mod Update
pub mod Around
