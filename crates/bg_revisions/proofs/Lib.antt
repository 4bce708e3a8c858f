pub mod Listings
mod Searched
