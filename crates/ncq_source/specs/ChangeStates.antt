-- A prepared change, as callers see it.
use Rattle.std.specs.Prelude.{ℕ, ◌==◌, if◌then◌else◌, List, [], ◌∷◌, map, Option, Some, None}
use Rattle.std.specs.List.Sorted.{IsStrictlySortedBy}
use Rattle.std.specs.Ordering.{nat_cmp}
use Rattle.ncq_source.specs.declared.change.Entry.{Entry}
use Rattle.ncq_source.specs.declared.change.Portion.{Portion}

-- the sources that a change names, by their places in the store
abbrev pub places : List Portion → List ℕ
places portions = map (λ portion. portion.source.0) portions

-- the sources rise, so each stands once
abbrev pub AreRising : List Portion → Type 0
AreRising portions = IsStrictlySortedBy nat_cmp (places portions)

-- the entries of the source at this place, where the change names it
abbrev pub entries_at : ℕ → List Portion → Option (List Entry)
entries_at at [] = None
entries_at at (portion ∷ portions) =
    if at == portion.source.0 then Some portion.entries else entries_at at portions
