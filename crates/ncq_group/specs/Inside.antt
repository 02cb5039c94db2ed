-- What holds inside of a table. Only its private invariant cites it.
use Rattle.std.specs.Prelude.{ℕ}
use Rattle.ncq_count.specs.Counted.{AreCounted}
use Rattle.ncq_group.specs.Tables.{TableState, Facts}
use Rattle.ncq_group.specs.declared.filed.Filed.{Filed}

-- the table of these files, which stand up to the change of this number
abbrev pub table_of : Filed → ℕ → TableState
table_of filed number = record { files = filed.shelf; next_file = filed.next; number = number }

-- the facts of the table hold, and the files of each group are counted
pub record IsInOrder (filed : Filed) (number : ℕ) : Type 0 where
  pub facts : Facts (table_of filed number)
  pub counted : AreCounted filed.shelf filed.groups
