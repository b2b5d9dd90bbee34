-- In the order in which to read them. `Places` serves the crate's own functions alone.
pub mod Lists
pub mod Running
pub mod Calls
pub mod Duty
pub mod Spells
pub mod Promises
pub mod DutyPromises
pub mod SpellPromises
pub mod Places
