pub mod LineKinds
pub mod Faults
pub mod Spells
pub mod Answers
pub mod Reading
pub mod Canonical
pub mod Items
pub mod Joining
