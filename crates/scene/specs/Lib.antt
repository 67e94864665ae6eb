pub mod Keeping
pub mod Laid
pub mod Lists
pub mod Meant
pub mod Pruned
pub mod Used
