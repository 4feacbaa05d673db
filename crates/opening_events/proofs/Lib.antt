-- a list that is made part by part
pub mod Parts
