pub mod Joins
pub mod Leads
pub mod Probes
