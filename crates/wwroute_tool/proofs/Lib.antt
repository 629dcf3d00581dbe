mod Carrying
mod Drawings
mod Endings
mod Headlines
mod PlanTexts
mod Tasks
