pub mod Lists
pub mod Crossing
pub mod Orders
pub mod Plans
