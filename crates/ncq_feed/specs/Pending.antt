-- The numbers of the files that have something to do. Only the crate's private clauses cite it.
use Rattle.std.specs.Prelude.{ℕ, List}
use Rattle.std.specs.BTreeSet.{BTreeSet}
use Rattle.ncq_feed.specs.declared.pending.Kept.{Kept}
use Rattle.ncq_feed.specs.declared.pending.Kept.TheVariants.{Few, Many}

-- the numbers that are kept, rising
abbrev pub numbers_in : Kept → List ℕ
numbers_in (Few few) = few
numbers_in (Many many) = many.keys
