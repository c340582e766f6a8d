pub mod Words
pub mod RoundTrip
