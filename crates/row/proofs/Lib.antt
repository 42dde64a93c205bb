pub mod AtStage
pub mod AfterSwap
