pub mod AfterSwap
