use Rattle.std.proofs.Common.{◌≡◌, ℕ, take}
use Rattle.std.specs.Prelude.{nat_eq}
use Rattle.std.specs.List.{list_any}
use Rattle.ncq_book.specs.Watches.{is_watched}
use Rattle.ncq_book.proofs.watchers.Watchers.listed.Given as goal

-- the install numbers so far are those of the files so far
abbrev pub invariant-loop-file : goal.invariant-loop-file
invariant-loop-file l = (install : ℕ) → list_any (nat_eq install) l.installs.items ≡ is_watched l.self (take l.file-index l.files) install
