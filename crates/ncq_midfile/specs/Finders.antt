-- What finds the rows of a file. Only the crate's private clauses cite it.
use Rattle.std.specs.Prelude.{◌≡◌, ℕ, List}
use Rattle.std.specs.List.{All}
use Rattle.ncq_midfile.specs.Files.{IsFile}
use Rattle.ncq_midfile.specs.Indexes.{Covers, cut_index}
use Rattle.ncq_midfile.specs.Orders.{IsOrder, cut_order}
use Rattle.ncq_midfile.specs.declared.finder.Finder.{Finder}
use Rattle.ncq_midfile.specs.declared.finder.Finder.TheVariants.{Index, Order}
use Rattle.ncq_midfile.specs.declared.index.Index.{Index as an_index}
use Rattle.ncq_midfile.specs.declared.order.Order.{Order as an_order}
use Rattle.ncq_midfile.specs.declared.signed.SignedRow.{SignedRow}

-- the finder has the first rows, perhaps not yet all
abbrev pub IsFinder : List SignedRow → Finder → Type 0
IsFinder rows (Index index) = Covers index rows
IsFinder rows (Order order) = IsOrder order rows

-- each of the finders has the first rows
abbrev pub AreFinders : List Finder → List SignedRow → Type 0
AreFinders finders rows = All (λ finder. IsFinder rows finder) finders

-- the finder is an index on the slots
abbrev pub IsIndexOn : List ℕ → Finder → Type 0
IsIndexOn slots finder = (index : an_index) × (finder ≡ Index index) × (index.slots ≡ slots)

-- the finder is an order by the slot
abbrev pub IsOrderBy : ℕ → Finder → Type 0
IsOrderBy slot finder = (order : an_order) × (finder ≡ Order order) × (order.slot ≡ slot)

-- the finder of fewer rows
abbrev pub cut_finder : ℕ → Finder → Finder
cut_finder kept (Index index) = Index (cut_index kept index)
cut_finder kept (Order order) = Order (cut_order kept order)

-- the rows are those of a file, and each finder has the first of them
pub record IsFound (base : ℕ) (rows : List SignedRow) (finders : List Finder) : Type 0 where
  pub file : IsFile base rows
  pub covers : AreFinders finders rows
