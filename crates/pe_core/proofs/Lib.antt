pub mod Bodies
pub mod Growing
pub mod Orders
pub mod Places
pub mod Replies
pub mod Tests
