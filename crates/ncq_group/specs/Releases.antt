-- What a release leaves.
use Rattle.std.specs.Prelude.{◌≡◌, ℕ, ◌<◌, ◌-◌, Some}
use Rattle.std.specs.FinMap.{get, insert}
use Rattle.ncq_shelf.specs.KeptFiles.{EachFile, Files, KeptFile}
use Rattle.ncq_group.specs.Closure.{IsNeeded}

-- the file of this number has a use
pub record HasUse (files : Files) (number : ℕ) : Type 0 where
  pub file : KeptFile
  pub at : get files number ≡ Some file
  pub used : 0 < file.uses

-- the files with one use less of this one
abbrev pub with_use_less : Files → ℕ → KeptFile → Files
with_use_less files number file = insert files number (record file { uses = file.uses - 1 })

-- one use of the file is gone; then those files stay that a use or a staying file needs, as they
-- were, and no others
pub record IsReleased (old : Files) (number : ℕ) (new : Files) : Type 0 where
  pub file : KeptFile
  pub at : get old number ≡ Some file
  pub kept : (other : ℕ) → IsNeeded (with_use_less old number file) other
      → get new other ≡ get (with_use_less old number file) other
  pub stays : EachFile new (λ other state.
      get (with_use_less old number file) other ≡ Some state
      × IsNeeded (with_use_less old number file) other)
