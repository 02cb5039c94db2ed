-- The rows that a new file begins with.
use Rattle.std.proofs.Common.{◌≡◌, ℕ, ◌≤◌, true, cond, nat_le, List, [], ◌∷◌, ◌++◌, length, map, append-nil, refl, sym, ap, ◌∙◌, arith}
use Rattle.std.proofs.lemmas.Bool.{le-leb}
use Rattle.std.specs.List.{AllByRecursion}
use Rattle.ncq_base.specs.Counts.{total_by, SameCounts}
use Rattle.ncq_row.specs.Embeddings.{Row}
use Rattle.ncq_midfile.specs.Content.{IsContent, gains, losses, up_to}
use Rattle.ncq_midfile.specs.Made.{gained_at}
use Rattle.ncq_shelf.specs.Contents.{IsUpTo}

itself : (n : ℕ) → nat_le n n ≡ true
itself n = le-leb n n (omega arith)

module _ (now : ℕ) where
  up_to_all : (rows : List Row) → up_to now (map (gained_at now) rows) ≡ map (gained_at now) rows
  up_to_all [] = refl
  up_to_all (row ∷ rows) = λ i. cond (itself now i) (gained_at now row ∷ up_to_all rows i) (up_to_all rows i)

  gains_all : (rows : List Row) → gains (map (gained_at now) rows) ≡ rows
  gains_all [] = refl
  gains_all (row ∷ rows) = λ i. row ∷ gains_all rows i

  losses_none : (rows : List Row) → losses (map (gained_at now) rows) ≡ []
  losses_none [] = refl
  losses_none (row ∷ rows) = losses_none rows

  numbered : (rows : List Row) → AllByRecursion (λ r. r.number ≤ now) (map (gained_at now) rows)
  numbered [] = tt
  numbered (row ∷ rows) = (omega arith, numbered rows)

  pub fresh_up_to : (rows : List Row) → IsUpTo now (record { base = now; rows = map (gained_at now) rows })
  fresh_up_to rows = record { base = omega arith; last = numbered rows }

  pub fresh_content : (rows more : List Row) → SameCounts rows more → IsContent now (map (gained_at now) rows) more
  fresh_content rows more same f =
      let lost : more ++ losses (up_to now (map (gained_at now) rows)) ≡ more = ap (λ r. more ++ losses r) (up_to_all rows) ∙ ap (λ r. more ++ r) (losses_none rows) ∙ append-nil more in
      let come : gains (up_to now (map (gained_at now) rows)) ≡ rows = ap gains (up_to_all rows) ∙ gains_all rows in
      ap (total_by f) lost ∙ sym (same f) ∙ ap (total_by f) (sym come)

  pub fresh_wide : (width : ℕ) (rows : List Row) → AllByRecursion (λ row. length row ≡ width) rows → AllByRecursion (λ r. length r.row ≡ width) (map (gained_at now) rows)
  fresh_wide width [] all = tt
  fresh_wide width (row ∷ rows) all = (all.0, fresh_wide width rows all.1)
