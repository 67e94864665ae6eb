pub mod Calls
pub mod Fields
pub mod Letters
pub mod Numbers
pub mod Replies
pub mod Worked
