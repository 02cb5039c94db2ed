pub mod DistinctTables
pub mod Kept
