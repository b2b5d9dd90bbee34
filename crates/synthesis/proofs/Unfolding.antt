-- Sets of nodes, opening, and violation of equations.
pub mod NodeSetLaws
pub mod MemberLaws
pub mod Extension
pub mod NodeWise
pub mod OpeningLaws
pub mod AnsweringLaws
pub mod ViolationLaws
pub mod EquationLaws
