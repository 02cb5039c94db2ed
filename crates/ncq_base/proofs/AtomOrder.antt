-- The order of atoms is total.
use Rattle.std.proofs.Common.{◌≡◌, refl, subst}
use Rattle.std.specs.Cmp.{IsTotalOrder}
use Rattle.ncq_base.specs.declared.atom.Atom.{Atom}
use Rattle.ncq_base.specs.declared.atom.Atom.TheVariants.{Num, Text}
use Rattle.ncq_base.specs.contracts.atom.AtomOrd.TheImpl.{ghosts}
use Rattle.ncq_base.specs.contracts.atom.AtomOrd.TheImpl.Laws.{total-law}
use Rattle.ncq_base.specs.Atoms.{atom_cmp}

derived_is : (a b : Atom) → ghosts.cmp a b ≡ atom_cmp a b
derived_is (Num m) (Num n) = refl
derived_is (Num m) (Text t) = refl
derived_is (Text s) (Num n) = refl
derived_is (Text s) (Text t) = refl

pub atom_cmp_total : IsTotalOrder atom_cmp
atom_cmp_total = subst IsTotalOrder (λ i a b. derived_is a b i) total-law
