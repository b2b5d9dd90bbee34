-- Why a scan is dropped.
pub mod Fronts
pub mod Places
pub mod Alone
pub mod OpenedPlaces
pub mod LowestNodes
pub mod Following
pub mod Explained
pub mod ByEquation
