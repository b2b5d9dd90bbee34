-- Equations that drop alike, their classes, and the table that is left when each class is one equation.
pub mod Together
pub mod RoundsAgree
pub mod Settled
pub mod NumberedAnswers
pub mod Refinement
pub mod Firsts
pub mod Quotient
pub mod ShortTables
pub mod ShortFillings
pub mod Minimal
pub mod ShortOrder
pub mod OnlyTable
pub mod TwoLimits
