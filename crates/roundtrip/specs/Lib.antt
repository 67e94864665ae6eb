pub mod Bytes
pub mod RoundTrip
