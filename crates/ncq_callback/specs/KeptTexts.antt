-- The text that stands beside entries which are told more than once. Only the crate's private
-- clauses cite it.
use Rattle.std.specs.Prelude.{◌≡◌, ℕ, List, ◌++◌, codes, decimal, length}
use Rattle.ncq_bag.specs.declared.bag.Difference.{Difference}
use Rattle.ncq_callback.specs.Texts.{entries_text}

-- the instant behind a name, and what stands behind it
abbrev pub instant_text : ℕ → List ℕ → List ℕ
instant_text instant behind = codes " " ++ decimal instant ++ behind

-- the entries of a notice and `end`
abbrev pub rest_text : List Difference → List ℕ
rest_text entries = entries_text entries ++ codes "end\n"

-- what a notice that prints the entries says behind the name
abbrev pub printed_text : ℕ → List Difference → List ℕ
printed_text instant entries = instant_text instant (codes "\n") ++ rest_text entries

-- the text is what is printed behind a name at the instant, and the head is what stands there
-- before the entries
pub record IsKeptText (instant head : ℕ) (text : List ℕ) (entries : List Difference) : Type 0 where
  pub long : head ≡ length (instant_text instant (codes "\n"))
  pub printed : text ≡ printed_text instant entries
