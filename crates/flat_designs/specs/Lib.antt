pub mod Faultless
pub mod OneDriver
pub mod Order
pub mod Laws
pub mod ClockLaws
