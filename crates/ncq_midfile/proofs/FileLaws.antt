-- A file with its finders, when rows are added or taken away.
use Rattle.std.proofs.Common.{◌≡◌, ◌<◌, ◌≤◌, ℕ, List, [], ◌∷◌, ◌++◌, map, take, subst}
use Rattle.std.specs.List.{AllByRecursion}
use Rattle.ncq_midfile.specs.Files.{IsFile}
use Rattle.ncq_midfile.specs.Finders.{AreFinders, IsFound, cut_finder}
use Rattle.ncq_midfile.specs.declared.finder.Finder.{Finder}
use Rattle.ncq_midfile.specs.declared.signed.SignedRow.{SignedRow}
use Rattle.ncq_midfile.proofs.FinderLaws.{finders_append, finders_cut, finders_none}
use Rattle.ncq_midfile.proofs.Kept.{file_push, file_take}

-- a file with one row more, and the finders that it had
pub found_push : (base : ℕ) (rows : List SignedRow) (finders : List Finder) (r : SignedRow) → IsFound base rows finders → base < r.number → AllByRecursion (λ x. x.number ≤ r.number) rows
    → IsFound base (rows ++ r ∷ []) finders
found_push base rows finders r f above last = record {
  file = file_push base rows r f.file above last;
  covers = finders_append finders rows (r ∷ []) f.covers;
}

-- a file of the first rows
pub found_take : (base kept : ℕ) (rows : List SignedRow) (finders : List Finder) → IsFound base rows finders → IsFound base (take kept rows) (map (cut_finder kept) finders)
found_take base kept rows finders f = record {
  file = file_take base kept rows f.file;
  covers = finders_cut finders rows kept f.covers;
}

-- a file without finders
pub found_by_none : (base : ℕ) (rows : List SignedRow) (finders : List Finder) → IsFile base rows → finders ≡ [] → IsFound base rows finders
found_by_none base rows finders f none = record { file = f; covers = finders_none finders rows none }

-- a file with other finders of its rows
pub found_with : (base : ℕ) (rows same : List SignedRow) (finders new : List Finder) → IsFound base rows finders → same ≡ rows → AreFinders new same → IsFound base rows new
found_with base rows same finders new f e all = record { file = f.file; covers = subst (AreFinders new) e all }
