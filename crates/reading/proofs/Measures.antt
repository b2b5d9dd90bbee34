-- What patterns cover, and their extents.
pub mod Codes
pub mod Counting
pub mod BoundedTests
pub mod NamedSlots
pub mod Bits
pub mod SlotSets
pub mod SlotTable
pub mod TwoEnds
pub mod Products
pub mod Extents
pub mod Rings
