pub mod Texts
pub mod LineNumbers
pub mod FirstFaults
pub mod Designs
pub mod OneFault
