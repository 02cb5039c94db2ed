-- What is taken away below a file. Only the crate's private clauses cite it.
use Rattle.std.specs.Prelude.{◌≡◌, ℕ, Some}
use Rattle.std.specs.FinMap.{get}
use Rattle.ncq_shelf.specs.KeptFiles.{AtFile, EachFile, Files}
use Rattle.ncq_shelf.specs.Stands.{IsReadIn}
use Rattle.ncq_group.specs.Closure.{IsNeeded}

-- only files that are not needed are gone, the others are as before; of those without a use each
-- that some file read is still read, and the file of this number is used or read, if it is still
-- there
pub record IsCollected (old : Files) (number : ℕ) (new : Files) : Type 0 where
  pub stays : EachFile new (λ other file. get old other ≡ Some file)
  pub kept : (other : ℕ) → IsNeeded old other
      → IsNeeded new other × (get new other ≡ get old other)
  pub read : EachFile new (λ other file.
      file.uses ≡ 0 → IsReadIn old file.expr → IsReadIn new file.expr)
  pub done : AtFile new number (λ file. file.uses ≡ 0 → IsReadIn new file.expr)
