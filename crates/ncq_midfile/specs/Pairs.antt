-- Rows that went out and the rows that they strike out, taken away together. Only the crate's
-- private clauses cite it.
use Rattle.std.specs.Prelude.{◌≡◌, ℕ, List, [], ◌∷◌}
use Rattle.std.specs.Prelude.{map}
use Rattle.std.specs.List.{swap_remove, All}
use Rattle.ncq_base.specs.Counts.{SameCounts}
use Rattle.ncq_midfile.specs.Content.{signed_at, gains, losses}
use Rattle.ncq_midfile.specs.Indexes.{row_hash}
use Rattle.ncq_midfile.specs.Orders.{IsOrder}
use Rattle.ncq_midfile.specs.declared.finder.Finder.{Finder}
use Rattle.ncq_midfile.specs.declared.finder.Finder.TheVariants.{Index, Order}
use Rattle.ncq_midfile.specs.declared.index.Index.{Index as an_index}
use Rattle.ncq_midfile.specs.declared.signed.SignedRow.{SignedRow}

-- the list without the item at the place, where the last one then stands
abbrev pub without : {A : Type 0} → ℕ → List A → List A
without place [] = []
without place (x ∷ xs) = swap_remove (x ∷ xs) place x

-- the list without the items at the places, the last place first
abbrev pub taken_out : {A : Type 0} → List ℕ → List A → List A
taken_out [] xs = xs
taken_out (place ∷ places) xs = without place (taken_out places xs)

-- at the places stand all rows that went out, and equal ones that came in
pub record ArePairs (places : List ℕ) (rows : List SignedRow) : Type 0 where
  pub went : SameCounts (losses (signed_at places rows)) (losses rows)
  pub came : SameCounts (gains (signed_at places rows)) (losses rows)

-- the index has the hashes of all of the rows
abbrev pub IsFull : List SignedRow → an_index → Type 0
IsFull rows index = index.hashes ≡ map (row_hash index.seed index.slots) rows

-- the finder has all of the rows
abbrev pub HasAll : List SignedRow → Finder → Type 0
HasAll rows (Index index) = IsFull rows index
HasAll rows (Order order) = IsFull rows order.index × IsOrder order rows

-- each finder has all of the rows
abbrev pub HaveAll : List Finder → List SignedRow → Type 0
HaveAll finders rows = All (λ finder. HasAll rows finder) finders
