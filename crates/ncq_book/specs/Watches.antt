-- Who has which file. Only the crate's private clauses cite it.
use Rattle.std.specs.Prelude.{ℕ, ◌==◌, ◌&&◌, ◌<◌, ◌^◌, Bool, List}
use Rattle.std.specs.List.{list_any, AllByRecursion}
pub use Rattle.ncq_book.specs.declared.watchers.Watch.{Watch}

-- whether two watches are one
abbrev pub is_watch : Watch → Watch → Bool
is_watch a b = a.file == b.file && a.install == b.install

-- whether one of the watches is that of the install number and one of the files
abbrev pub is_watched : List Watch → List ℕ → ℕ → Bool
is_watched watches files install =
    list_any (λ file. list_any (is_watch (record { file = file; install = install })) watches) files

-- each install number is one of 64 bits
abbrev pub InstallsFit : List Watch → Type 0
InstallsFit watches = AllByRecursion (λ w. w.install < 2 ^ 64) watches
