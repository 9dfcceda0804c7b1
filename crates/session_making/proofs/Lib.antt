pub mod Rows
pub mod SessionFronts
pub mod Written
