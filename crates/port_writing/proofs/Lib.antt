pub mod PortLines
