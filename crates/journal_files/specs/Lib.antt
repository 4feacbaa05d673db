pub mod Journals
pub mod Listings
