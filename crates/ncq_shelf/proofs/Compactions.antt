-- What a file is after its base was moved, from the clauses that say it.
use Rattle.std.proofs.Common.{◌≡◌, ℕ, ◌≤◌, List, Ok, Err, OnOk}
use Rattle.std.specs.declared.result.Result.{Result}
use Rattle.ncq_midfile.specs.Content.{Row, IsContent}
use Rattle.ncq_midfile.specs.Files.{AreLeftAt, FileState}
use Rattle.ncq_shelf.specs.Groups.{HasBase}

pub compacted : {T E P : Type 0} (r : Result T E) (change : ℕ) (old new : FileState) → OnOk r (new.base ≡ change) → OnOk r (AreLeftAt change old.rows new.rows)
    → OnOk r ((at : ℕ) (list : List Row) → change ≤ at → IsContent at old.rows list → IsContent at new.rows list) → (HasBase change old new → P) → OnOk r P
compacted (Ok x) change old new base left stays f = f (record { base = base; left = left; stays = stays })
compacted (Err e) change old new base left stays f = tt
