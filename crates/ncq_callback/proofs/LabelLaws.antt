-- Names that are taken, and names that are not.
use Rattle.std.proofs.Common.{◌≡◌, false, sym, true≢false}
use Rattle.std.specs.Prelude.{Option, Some, None, IsSome}
use Rattle.std.specs.Option.{is_some}

-- an option that is not there
pub not_some : {A : Type 0} (o : Option A) → is_some o ≡ false → IsSome o → ⊥
not_some None e h = true≢false (sym h)
not_some (Some a) e h = cc
