-- What crates above use of signatures.
pub use Rattle.ncq_signature.proofs.SignatureCases.{signature_scan, signature_equal, signature_range, signature_join}
pub use Rattle.ncq_signature.proofs.SignatureLaws.{differs}
