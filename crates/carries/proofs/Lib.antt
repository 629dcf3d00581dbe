pub mod OneWay
pub mod Period
pub mod Cycles
pub mod ContextCycles
pub mod OneContext
pub mod ByItself
