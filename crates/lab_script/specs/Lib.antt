pub mod Words
pub mod Reports
pub mod Sides
pub mod Forms
pub mod Values
pub mod Said
pub mod Script
