pub mod Groups
pub mod IntervalTexts
pub mod Signatures
pub mod SignatureTexts
