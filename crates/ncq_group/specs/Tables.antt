-- What callers see of a table, and what holds of every table.
use Rattle.std.specs.Prelude.{◌≡◌, ℕ, ◌<◌, refl}
use Rattle.std.specs.Coded.{Coded, code_by, coded×, coded_ℕ}
use Rattle.ncq_shelf.specs.KeptFiles.{EachFile, Files, files_code}
use Rattle.ncq_shelf.specs.Stands.{IsGrounded, IsReadIn}
use Rattle.ncq_shelf.specs.Contents.{AreFormed, AreWide, AreUpTo}
use Rattle.ncq_group.specs.declared.mark.GroupMark.{GroupMark}

-- the files, the number that the next new file gets, and the change up to which the files stand
pub record TableState : Type 0 where
  pub files : Files
  pub next_file : ℕ
  pub number : ℕ

-- how a table is written as a value
abbrev pub table_code : Coded TableState
table_code =
    code_by (Files × (ℕ × ℕ)) (coded× files_code (coded× coded_ℕ coded_ℕ))
    (λ t. (t.files, (t.next_file, t.number)))
    (λ p. record { files = p.0; next_file = p.1.0; number = p.1.1 }) (λ _. refl)

-- how far the table is
abbrev pub mark_of : TableState → GroupMark
mark_of table = record { number = table.number; next_file = table.next_file }

-- what holds of every table: expressions are well formed and distinct; the inputs of a file have
-- smaller numbers; each number is below the next; a file without uses is an input of another; rows
-- have the width of their expression, and none is of a change that is not yet
pub record Facts (table : TableState) : Type 0 where
  pub grounded : IsGrounded table.files
  pub formed : AreFormed table.files
  pub wide : AreWide table.files
  pub up_to : AreUpTo table.number table.files
  pub below : EachFile table.files (λ number file. number < table.next_file)
  pub read : EachFile table.files (λ number file. file.uses ≡ 0 → IsReadIn table.files file.expr)
