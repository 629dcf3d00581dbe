pub mod GateLines
