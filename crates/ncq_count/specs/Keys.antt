-- What the keys of groups tell. Callers need none of it but through `AreCounted`.
use Rattle.std.specs.Prelude.{◌≡◌, ℕ, Bool, true, false}
use Rattle.ncq_plan.specs.declared.expr.Expr.{Expr}
use Rattle.ncq_signature.specs.declared.signature.Signature.{Signature}
use Rattle.ncq_signature.specs.declared.signature.Signature.TheVariants.{EqOn, RangeOn}
use Rattle.ncq_signature.specs.Signatures.{signature_of}
use Rattle.ncq_signature.specs.Groups.{is_of_selections}
use Rattle.ncq_shelf.specs.Stands.{Files, Stands}
use Rattle.ncq_count.specs.declared.key.GroupKey.{GroupKey}
use Rattle.ncq_count.specs.declared.key.GroupKey.TheVariants.{Alone, Equals, Ranges}

-- the number of the file that the key names
abbrev pub file_of : GroupKey → ℕ
file_of (Alone file) = file
file_of (Equals input slot) = input
file_of (Ranges input slot) = input

-- whether the key is of a group of selections
abbrev pub selects : GroupKey → Bool
selects (Alone file) = false
selects (Equals input slot) = true
selects (Ranges input slot) = true

-- the signature that the key tells where the file that it names is of this expression
abbrev pub told_by : GroupKey → Expr → Signature
told_by (Alone file) expr = signature_of expr
told_by (Equals input slot) expr = EqOn expr slot
told_by (Ranges input slot) expr = RangeOn expr slot

-- the key tells the signature
pub record Tells (files : Files) (key : GroupKey) (s : Signature) : Type 0 where
  pub expr : Expr
  pub stands : Stands files expr (file_of key)
  pub told : s ≡ told_by key expr
  pub kind : is_of_selections s ≡ selects key
