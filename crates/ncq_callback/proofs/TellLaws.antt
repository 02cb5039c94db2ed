-- Counts of what signed rows tell leave the difference of the answers after and before.
use Rattle.std.proofs.Common.{◌≡◌, ℕ, ◌+◌, ◌&&◌, Bool, true, false, cond, List, [], ◌∷◌, map, refl, sym, ◌∙◌, ap, arith, zero-add}
use Rattle.std.specs.Prelude.{ℤ, pos, ◌+ℤ◌, ◌-ℤ◌, Option, if◌then◌else◌}
use Rattle.std.specs.List.{filter}
use Rattle.std.specs.Option.{unwrap_or}
use Rattle.std.specs.Ordering.{nat_cmp}
use Rattle.std.specs.Cmp.Lexicographic.{slice_cmp}
use Rattle.std.specs.FinMap.{empty, get-empty}
use Rattle.std.specs.Str.{bytes_eq}
use Rattle.std.proofs.lemmas.Int.{ints}
use Rattle.ncq_base.specs.Counts.{total_by}
use Rattle.ncq_base.specs.Keys.{ByBytes, times}
use Rattle.ncq_bag.specs.Bags.{count_of, count_in, added, signed, surplus, difference, differences}
use Rattle.ncq_bag.proofs.CallerLemmas.{count_of-added, tally_decides}
use Rattle.ncq_row.specs.Embeddings.{Row}
use Rattle.ncq_plan.specs.Totals.{SignedRow, plus_total, minus_total, LeadsTo}
use Rattle.ncq_plan.proofs.CallerLemmas.{one}
use Rattle.ncq_callback.specs.Gathered.{answers, counts_after, with_row}

moved : (a b g l : ℕ) → a + l ≡ b + g → pos g -ℤ pos l ≡ pos a -ℤ pos b
moved a b g l e = omega (arith, ints)

nothing_more : (was : ℤ) → was ≡ was +ℤ (pos 0 -ℤ pos 0)
nothing_more was = omega (arith, ints)

from_nothing : (z w : ℤ) → w ≡ pos 0 → w +ℤ z ≡ z
from_nothing z w e = omega (arith, ints)

module _ (test : Row → Bool) (bytes : Row → List ℕ) (key : List ℕ) where
  -- whether a row that passes has these bytes
  abbrev is_told : Row → Bool
  is_told row = test row && bytes_eq key (bytes row)

  answers_total : (rows : List Row) → count_in key (answers test bytes rows) ≡ total_by (one is_told) rows
  answers_total [] = refl
  answers_total (row ∷ rows) =
      elim (test row) as (λ t. times (bytes_eq key) (map bytes (cond t (row ∷ filter test rows) (filter test rows))) ≡ cond (t && bytes_eq key (bytes row)) 1 0 + total_by (one is_told) rows) [
        | true ↦ ap (λ n. cond (bytes_eq key (bytes row)) 1 0 + n) (answers_total rows)
        | false ↦ answers_total rows ∙ sym (zero-add (total_by (one is_told) rows))
      ]

  -- one signed row more
  one_more : (plus hit : Bool) (was : ℤ) (g l : ℕ)
      → (if hit then was +ℤ signed plus 1 else was) +ℤ (pos g -ℤ pos l) ≡ was +ℤ (pos (cond plus (cond hit 1 0) 0 + g) -ℤ pos (cond plus 0 (cond hit 1 0) + l))
  one_more true true was g l = omega (arith, ints)
  one_more true false was g l = omega (arith, ints)
  one_more false true was g l = omega (arith, ints)
  one_more false false was g l = omega (arith, ints)

  counts_total : (delta : List SignedRow) (counts : ByBytes ℤ)
      → count_of (counts_after test bytes counts delta) key ≡ count_of counts key +ℤ (pos (plus_total (one is_told) delta) -ℤ pos (minus_total (one is_told) delta))
  counts_total [] counts = nothing_more (count_of counts key)
  counts_total (c ∷ delta) counts =
      counts_total delta (with_row test bytes counts c.row c.plus)
      ∙ ap (λ (z : ℤ). z +ℤ (pos (plus_total (one is_told) delta) -ℤ pos (minus_total (one is_told) delta)))
      (elim (test c.row) as (λ t. count_of (if t then added counts (bytes c.row) 1 c.plus else counts) key ≡ (if t && bytes_eq key (bytes c.row) then count_of counts key +ℤ signed c.plus 1 else count_of counts key)) [
        | true ↦ count_of-added counts (bytes c.row) key 1 c.plus
        | false ↦ refl
      ])
      ∙ one_more c.plus (is_told c.row) (count_of counts key) (plus_total (one is_told) delta) (minus_total (one is_told) delta)

  counts_surplus : (before after : List Row) (delta : List SignedRow) → LeadsTo before delta after
      → count_of (counts_after test bytes empty delta) key ≡ surplus (answers test bytes after) (answers test bytes before) key
  counts_surplus before after delta leads =
      counts_total delta empty
      ∙ from_nothing _ (count_of empty key) (ap (λ (o : Option ℤ). unwrap_or o (pos 0)) (get-empty (slice_cmp nat_cmp) key))
      ∙ moved (total_by (one is_told) after) (total_by (one is_told) before) _ _ (leads (one is_told))
      ∙ (λ i. pos (sym (answers_total after) i) -ℤ pos (sym (answers_total before) i))

pub counts_tell : (before after : List Row) (delta : List SignedRow) → LeadsTo before delta after → (test : Row → Bool) (bytes : Row → List ℕ)
    → differences (counts_after test bytes empty delta) ≡ difference (answers test bytes after) (answers test bytes before)
counts_tell before after delta leads test bytes =
    tally_decides (counts_after test bytes empty delta) (answers test bytes after) (answers test bytes before) (λ key. counts_surplus test bytes key before after delta leads)
