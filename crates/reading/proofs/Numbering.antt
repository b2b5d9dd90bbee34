-- The nodes of a rule by number.
pub mod NodeLaws
pub mod Listings
pub mod NumberedLaws
