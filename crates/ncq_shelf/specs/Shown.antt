-- What callers see of the files. Only the crate's private clauses cite it.
use Rattle.std.specs.Prelude.{ℕ, ◌≤◌, List, length, map}
use Rattle.std.specs.FinMap.{from_entries}
use Rattle.ncq_midfile.specs.Content.{up_to}
use Rattle.ncq_midfile.specs.Views.{RangeState}
use Rattle.ncq_shelf.specs.KeptFiles.{KeptFile, Files}
use Rattle.ncq_shelf.specs.Groups.{Groups, content_of}
use Rattle.ncq_shelf.specs.declared.group.Group.{Group}
use Rattle.ncq_shelf.specs.declared.rows.Rows.{Rows}
use Rattle.ncq_shelf.specs.declared.rows.Rows.TheVariants.{Whole, Ranged}
use Rattle.ncq_shelf.specs.declared.file.File.{File}

-- what is seen of a file, with these files of groups
abbrev pub state_of : Groups → File → KeptFile
state_of groups file = record {
  expr = file.expr;
  uses = file.uses;
  content = content_of groups file.expr file.content;
}

-- rows of its own without those of later changes
abbrev pub cut_own : ℕ → Rows → Rows
cut_own change (Whole file) =
    Whole (record { base = file.base; rows = up_to change file.rows })
cut_own change (Ranged group base) = Ranged group base

-- if the rows are its own, they were made at the change or before
abbrev pub IsBelow : ℕ → Rows → Type 0
IsBelow change (Whole file) = file.base ≤ change
IsBelow change (Ranged group base) = Unit {0}

-- the file without its own rows of later changes
abbrev pub cut_file : ℕ → File → File
cut_file change file = record file { content = cut_own change file.content }

-- and so with its number
abbrev pub cut_entry : ℕ → ℕ × File → ℕ × File
cut_entry change entry = (entry.0, cut_file change entry.1)

-- the file of a group without its rows of later changes, and so with its group
abbrev pub cut_held : ℕ → RangeState → RangeState
cut_held change held = record { slot = held.slot; rows = up_to change held.rows }

abbrev pub cut_group : ℕ → Group × RangeState → Group × RangeState
cut_group change entry = (entry.0, cut_held change entry.1)

-- how many signed rows are its own
abbrev pub count_of : Rows → ℕ
count_of (Whole file) = length file.rows
count_of (Ranged group base) = 0

-- what is seen of all files
abbrev pub shown : Groups → List (ℕ × File) → Files
shown groups pairs = from_entries (map (λ p. (p.0, state_of groups p.1)) pairs)
