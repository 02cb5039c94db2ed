-- What crates above use of atoms and their files.
pub use Rattle.ncq_holders.proofs.HolderLaws.{atoms_same, atom_itself, noted_here, noted_kept, forgotten_kept}
