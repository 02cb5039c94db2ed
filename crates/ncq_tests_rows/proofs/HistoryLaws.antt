-- Files whose rows have one value each.
use Rattle.std.proofs.Common.{◌≡◌, ℕ, ◌<◌, ◌≤◌, true, true≢false, cond, List, [], ◌∷◌, length, nat_le, refl, sym, ap, ◌∙◌, arith}
use Rattle.std.specs.Prelude.{◌&&◌}
use Rattle.std.specs.List.{All, AllByRecursion}
use Rattle.std.proofs.lemmas.List.Elements.{All-from_recursion, recursion_from_All}
use Rattle.ncq_base.specs.Intervals.{in_interval, is_above, is_below}
use Rattle.ncq_base.specs.declared.atom.Atom.{Atom}
use Rattle.ncq_base.specs.declared.atom.Atom.TheVariants.{Num, Text}
use Rattle.ncq_base.specs.declared.interval.End.TheVariants.{Unbounded}
use Rattle.ncq_base.specs.declared.interval.Interval.{Interval}
use Rattle.ncq_row.specs.Values.{atom_at}
use Rattle.ncq_midfile.specs.Content.{up_to}
use Rattle.ncq_midfile.specs.Files.{AreLeftAt}
use Rattle.ncq_midfile.specs.Matching.{HaveSlots}
use Rattle.ncq_midfile.specs.Ranged.{HaveNumbers}
use Rattle.ncq_midfile.specs.Views.{HasNumber, is_number, is_within, of_rows}
use Rattle.ncq_midfile.specs.declared.signed.SignedRow.{SignedRow}
use Rattle.ncq_midfile.proofs.Foldeds.{up_all}
use Rattle.ncq_midfile.proofs.Sounds.{none_since}
use Rattle.ncq_midfile.proofs.Wide.{all_filtered}

each_some : (rows : List SignedRow) → AllByRecursion (λ r. length r.row ≡ 1) rows → AllByRecursion (λ r. 0 < length r.row) rows
each_some [] all = tt
each_some (r ∷ rows) all =
    let one : length r.row ≡ 1 = all.0 in
    (omega arith, each_some rows all.1)

-- a row with one value has a first slot
pub one_some : (rows : List SignedRow) → AllByRecursion (λ r. length r.row ≡ 1) rows → All (λ r. 0 < length r.row) rows
one_some rows all = All-from_recursion (λ (r : SignedRow). 0 < length r.row) rows (each_some rows all)

-- rows of one width have each slot below it
module _ (slot width : ℕ) (below : slot < width) where
  has_slot : (r : SignedRow) → length r.row ≡ width → All (λ s. s < length r.row) (slot ∷ [])
  has_slot r e = All-from_recursion (λ s. s < length r.row) (slot ∷ []) (omega (arith, below, e), tt)

  have_slot : (rows : List SignedRow) → AllByRecursion (λ r. length r.row ≡ width) rows → AllByRecursion (λ r. All (λ s. s < length r.row) (slot ∷ [])) rows
  have_slot [] all = tt
  have_slot (r ∷ rows) all = (has_slot r all.0, have_slot rows all.1)

  pub each_slot : (rows : List SignedRow) → AllByRecursion (λ r. length r.row ≡ width) rows → HaveSlots (slot ∷ []) rows
  each_slot rows all = All-from_recursion (λ (r : SignedRow). All (λ s. s < length r.row) (slot ∷ [])) rows (have_slot rows all)

-- rows with one value each have the first slot
pub one_slot : (rows : List SignedRow) → AllByRecursion (λ r. length r.row ≡ 1) rows → HaveSlots (0 ∷ []) rows
one_slot rows all = each_slot 0 1 (omega arith) rows all

-- and so have those of them that are left up to a number
pub one_up_to : (n : ℕ) (rows : List SignedRow) → AllByRecursion (λ r. length r.row ≡ 1) rows → AllByRecursion (λ r. length r.row ≡ 1) (up_to n rows)
one_up_to n rows all = all_filtered (λ (r : SignedRow). length r.row ≡ 1) (λ r. nat_le r.number n) rows all

-- where no row is above the change, none is where it was made the base
pub left_whole : (n : ℕ) (old new : List SignedRow) → AllByRecursion (λ r. r.number ≤ n) old → AreLeftAt n old new → up_to n new ≡ new
left_whole n old new last left = (up_all n new (none_since n new (left.later ∙ (up_all n old last).1))).0

-- an interval without ends has each row with a number
module _ (slot : ℕ) (interval : Interval) (low : interval.low ≡ Unbounded) (high : interval.high ≡ Unbounded) where
  number_within : (atom : Atom) → is_number atom ≡ true → in_interval interval atom ≡ true
  number_within (Num n) e = λ i. is_above (low i) n && is_below (high i) n
  number_within (Text text) e = absurd (true≢false (sym e))

  each_within : (rows : List SignedRow) → AllByRecursion (λ r. HasNumber slot r.row) rows → of_rows (is_within slot interval) rows ≡ rows
  each_within [] all = refl
  each_within (r ∷ rows) all =
      (λ i. cond (number_within (atom_at r.row slot) all.0.number i) (r ∷ of_rows (is_within slot interval) rows) (of_rows (is_within slot interval) rows))
      ∙ ap (λ rest. r ∷ rest) (each_within rows all.1)

  pub all_within : (rows : List SignedRow) → HaveNumbers slot rows → of_rows (is_within slot interval) rows ≡ rows
  all_within rows all = each_within rows (recursion_from_All (λ (r : SignedRow). HasNumber slot r.row) rows all)
