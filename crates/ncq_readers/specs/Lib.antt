pub mod Readings
pub mod ReaderTables
pub mod Passed
pub mod Tables
