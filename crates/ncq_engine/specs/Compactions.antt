-- Which files a change compacts before it is made, and to which number.
use Rattle.std.specs.Prelude.{◌≡◌, ◌<◌, ◌≤◌, ◌⊎◌, ◌==◌, ℕ, List, [], ◌∷◌, min}
use Rattle.std.specs.Prelude.{Option, Some, None, if◌then◌else◌}
use Rattle.std.specs.FinMap.{get}
use Rattle.std.specs.List.{AllByRecursion}
use Rattle.ncq_book.specs.declared.subscription.Subscription.{Subscription as Kept}
use Rattle.ncq_book.specs.Books.{subscription_of}
use Rattle.ncq_midfile.specs.Files.{FileState}
use Rattle.ncq_midfile.specs.Views.{losses_above}
use Rattle.ncq_script.specs.declared.command.Command.{Command}
use Rattle.ncq_script.specs.declared.command.Command.TheVariants.{Delta, Batch}
use Rattle.ncq_shelf.specs.KeptFiles.{EachFile, Files, KeptFile}
use Rattle.ncq_source.specs.StoreStates.{StoreState}
use Rattle.ncq_engine.specs.Engines.{mark_in}
use Rattle.ncq_engine.specs.Stands.{EngineState}

-- the lesser of a mark, if there is one, and a number
abbrev pub least_with : Option ℕ → ℕ → ℕ
least_with None least = least
least_with (Some mark) least = min mark least

-- the least mark of the subscriptions that have the file and have fired; the number of changes
-- where there is none
abbrev pub least_mark : StoreState → List Kept → ℕ → ℕ
least_mark store [] number = store.changes
least_mark store (m ∷ more) number = if m.file.0 == number
    then least_with (mark_in store m) (least_mark store more number)
    else least_mark store more number

abbrev pub least_of : EngineState → ℕ → ℕ
least_of engine number = least_mark engine.store engine.subscriptions number

-- a file is to be compacted to a number: 64 rows or more went out above its base, the number is
-- above the base, and no row is above the number
pub record IsWorn (least : ℕ) (content : FileState) : Type 0 where
  pub full : 64 ≤ losses_above content.base content.rows
  pub above : content.base < least
  pub last : AllByRecursion (λ r. r.number ≤ least) content.rows

-- the file of this number is there, with this base
pub record HasBase (files : Files) (number from : ℕ) : Type 0 where
  pub file : KeptFile
  pub at : get files number ≡ Some file
  pub base : file.content.base ≡ from

-- each file that was to be compacted to the least mark has it as its base
abbrev pub AreCompacted : EngineState → EngineState → Type 0
AreCompacted old new = EachFile old.table.files (λ number file.
    IsWorn (least_of old number) file.content
    → HasBase new.table.files number (least_of old number))

-- the command changes sources
abbrev pub IsChange : Command → Type 0
IsChange (Delta changed) = Unit {0}
IsChange (Batch changed) = Unit {0}
IsChange command = ⊥

-- each file is there still, with the base that it had. Only the crate's private clauses cite this
-- and what is below.
abbrev pub KeepBases : EngineState → EngineState → Type 0
KeepBases old new = EachFile old.table.files (λ number file.
    HasBase new.table.files number file.content.base)

-- each file that had a base has it still, or has the least mark as its base
abbrev pub MoveBases : EngineState → EngineState → Type 0
MoveBases old new = (number base : ℕ) → HasBase old.table.files number base
    → HasBase new.table.files number base ⊎ HasBase new.table.files number (least_of old number)

-- the lesser of a number and the mark of a subscription, if it is there
abbrev pub least_at : StoreState → Option Kept → ℕ → ℕ
least_at store None least = least
least_at store (Some m) least = least_with (mark_in store m) least

-- the least of a number and the marks of the subscriptions of these install numbers
abbrev pub least_among : StoreState → List Kept → List ℕ → ℕ → ℕ
least_among store subscriptions [] least = least
least_among store subscriptions (install ∷ more) least =
    least_among store subscriptions more
    (least_at store (subscription_of install subscriptions) least)
