-- How many signed rows there are in all: those that virtual files share count once.
use Rattle.std.specs.Prelude.{◌≡◌, ℕ, ◌+◌, ◌-◌, ◌^◌, ◌&&◌, Bool, true, List, Some, length, min}
use Rattle.std.specs.Prelude.{nat_eq}
use Rattle.std.specs.FinMap.{get}
use Rattle.std.specs.List.{AllByRecursion, IsDistinct, list_any}
use Rattle.std.specs.Map.{keys_of}
use Rattle.ncq_base.specs.Counts.{total_by}
use Rattle.ncq_base.specs.declared.interval.Interval.{Interval}
use Rattle.ncq_midfile.specs.Views.{RangeState}
use Rattle.ncq_shelf.specs.KeptFiles.{EachFile, Files, KeptFile}
use Rattle.ncq_shelf.specs.Ranges.{IsRange, IsRangeFile, SelectsRange}

-- the file of the number selects by no interval, and has so many rows
pub record HasOwnRows (files : Files) (number rows : ℕ) : Type 0 where
  pub file : KeptFile
  pub at : get files number ≡ Some file
  pub plain : IsRange file.expr → ⊥
  pub count : rows ≡ length file.content.rows

-- the list has each file that selects by no interval, once, with the number of its rows
pub record AreOwnCounts (files : Files) (own : List (ℕ × ℕ)) : Type 0 where
  pub once : IsDistinct nat_eq (keys_of own)
  pub right : AllByRecursion (λ p. HasOwnRows files p.0 p.1) own
  pub all : EachFile files (λ number file. (IsRange file.expr → ⊥)
      → list_any (nat_eq number) (keys_of own) ≡ true)

-- whether the two are one slot of one input
abbrev pub is_slot : ℕ × ℕ → ℕ × ℕ → Bool
is_slot a b = nat_eq a.0 b.0 && nat_eq a.1 b.1

-- the list has each slot of an input by whose intervals files select, once, with its range file
pub record AreRangeFiles (files : Files) (shared : List ((ℕ × ℕ) × RangeState)) : Type 0 where
  pub once : IsDistinct is_slot (keys_of shared)
  pub right : AllByRecursion (λ p. IsRangeFile files p.0.0 p.0.1 p.1) shared
  pub all : (input slot : ℕ) (interval : Interval) (number : ℕ)
      → SelectsRange files input slot interval number
      → list_any (is_slot (input, slot)) (keys_of shared) ≡ true

-- the number is that of all signed rows, or the greatest of 64 bits where there are more
pub record CountsRows (files : Files) (total : ℕ) : Type 0 where
  pub own : List (ℕ × ℕ)
  pub are_own : AreOwnCounts files own
  pub shared : List ((ℕ × ℕ) × RangeState)
  pub are_shared : AreRangeFiles files shared
  pub count : total ≡ min (2 ^ 64 - 1)
      (total_by (λ p. p.1) own + total_by (λ p. length p.1.rows) shared)
