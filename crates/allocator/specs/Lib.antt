pub mod Record
pub mod Calls
pub mod Pass
pub mod Lists
