pub mod Barriers
pub mod First
pub mod Looking
pub mod Places
pub mod Rooms
pub mod Visits
pub mod Walks
