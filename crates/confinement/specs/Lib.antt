pub mod Events
pub mod Calls
pub mod Lists
pub mod Demand
