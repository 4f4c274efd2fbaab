pub mod Numbers
pub mod Columns
pub mod Cells
pub mod Known
