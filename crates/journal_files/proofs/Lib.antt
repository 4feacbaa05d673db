-- which files go, and what is handed to one
pub mod Spans
-- what was read of a folder
pub mod Pieces
-- names, and the numbers in them
pub mod Numbered
