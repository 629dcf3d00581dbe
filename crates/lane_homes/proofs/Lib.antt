mod Marks
mod Parts
