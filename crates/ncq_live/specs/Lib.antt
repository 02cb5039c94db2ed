pub mod LiveTables
pub mod Shares
pub mod Wears
