-- What a file passes on of a change. Only the crate's private clauses cite it.
use Rattle.std.specs.Prelude.{◌≡◌, ℕ, ◌<◌, ◌⊎◌, Bool, true, false, ◌||◌, List, [], ◌++◌}
use Rattle.std.specs.Prelude.{map, filter}
use Rattle.ncq_midfile.specs.declared.signed.SignedRow.{SignedRow}
use Rattle.ncq_split.specs.declared.parcel.Parcel.{Parcel}
use Rattle.ncq_readers.specs.Passed.{rows_to}
use Rattle.ncq_shelf.specs.KeptFiles.{Files}
use Rattle.ncq_shelf.specs.Stands.{IsThere}
use Rattle.ncq_shelf.specs.Ranges.{IsNoRange}
use Rattle.ncq_shelf.specs.Readers.{SelectsFrom, IsJoinOver, MakesNothing}
use Rattle.ncq_feed.specs.Runs.{Run, news_in, is_among, IsFor}

-- the parcel is for a file that is there and has its own rows, and its row is for that file
pub record IsParcelFor (run : Run) (parcel : Parcel) : Type 0 where
  pub there : IsThere run.files parcel.file.0
  pub own : IsNoRange run.files parcel.file.0
  pub fits : IsFor run parcel.file.0 parcel.row

-- the numbers of the files of parcels
abbrev pub files_of : List Parcel → List ℕ
files_of parcels = map (λ parcel. parcel.file.0) parcels

-- each file got the rows of its parcels, and is pending then
pub record AreDelivered (run : Run) (parcels : List Parcel) (old_pending new_pending : List ℕ)
    (old new : Files) : Type 0 where
  pub rows : (number : ℕ) → news_in run.store.changes new number
      ≡ news_in run.store.changes old number ++ rows_to number parcels
  pub noted : (number : ℕ) → is_among number new_pending
      ≡ (is_among number (files_of parcels) || is_among number old_pending)

-- each selection over the file got those of its rows that it takes, and is pending if it got any
pub record IsPassedDown (run : Run) (at : ℕ) (old_pending new_pending : List ℕ)
    (old new : Files) : Type 0 where
  pub taken : (number : ℕ) (test : SignedRow → Bool) → SelectsFrom run.files number at test
      → news_in run.store.changes new number ≡ news_in run.store.changes old number
      ++ filter test (news_in run.store.changes old at)
  pub others : (number : ℕ)
      → ((test : SignedRow → Bool) → SelectsFrom run.files number at test → ⊥)
      → news_in run.store.changes new number ≡ news_in run.store.changes old number
  pub quiet : (number : ℕ) → is_among number new_pending ≡ false
      → (is_among number old_pending ≡ false)
      × (news_in run.store.changes new number ≡ news_in run.store.changes old number)
  pub noted : (number : ℕ) → is_among number new_pending ≡ true
      → (is_among number old_pending ≡ true)
      ⊎ ((test : SignedRow → Bool) × SelectsFrom run.files number at test)

-- each join over the file is pending, or makes nothing of its rows of the change
pub record AreTold (run : Run) (at : ℕ) (files : Files) (old_pending new_pending : List ℕ)
    : Type 0 where
  pub stays : (number : ℕ) → is_among number new_pending ≡ false
      → is_among number old_pending ≡ false
  pub told : (number : ℕ) → is_among number new_pending ≡ false
      → IsJoinOver run.files at number → MakesNothing files at run.store.changes number
  pub noted : (number : ℕ) → is_among number new_pending ≡ true
      → (is_among number old_pending ≡ true) ⊎ IsJoinOver run.files at number

-- of the files below the number those that are not in the list have no rows of the change
abbrev pub AreNamed : Run → ℕ → List ℕ → Files → Type 0
AreNamed run next numbers files =
    (number : ℕ) → number < next → is_among number numbers ≡ false
    → news_in run.store.changes files number ≡ []
