pub mod Pays
pub mod HardClauses
pub mod ListOfPlan
pub mod Faults
pub mod Verdicts
pub mod Maker
pub mod Demand3
pub mod Answers
