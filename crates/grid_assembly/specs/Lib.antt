pub mod PortCells
pub mod PlanDrawing
pub mod West
pub mod Laws
