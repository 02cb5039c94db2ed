-- What a range file keeps when rows are added or taken away.
use Rattle.std.proofs.Common.{◌≡◌, ℕ, Bool, ◌≤◌, List, [], ◌∷◌, ◌++◌, map, length, take, drop, refl, sym, ◌∙◌, ap, subst, arith}
use Rattle.std.specs.List.{AllByRecursion, range_with_len}
use Rattle.std.proofs.lemmas.List.{length-map}
use Rattle.std.proofs.lemmas.List.Elements.{All-from_recursion, recursion_from_All}
use Rattle.ncq_midfile.specs.Content.{Row, signed_at, IsPart}
use Rattle.ncq_midfile.specs.Files.{AreNumbered}
use Rattle.ncq_midfile.specs.Finders.{AreFinders, cut_finder}
use Rattle.ncq_midfile.specs.Ranged.{IsRanged}
use Rattle.ncq_midfile.specs.Views.{HasNumber, of_rows}
use Rattle.ncq_midfile.specs.declared.finder.Finder.{Finder}
use Rattle.ncq_midfile.specs.declared.signed.SignedRow.{SignedRow}
use Rattle.ncq_midfile.proofs.FinderLaws.{finders_append, finders_cut, finders_front}
use Rattle.ncq_midfile.proofs.Foldeds.{all_places, part_each, part_numbered}
use Rattle.ncq_midfile.proofs.IndexLaws.{whole_taken}
use Rattle.ncq_midfile.proofs.Kept.{numbered_push, numbered_take}
use Rattle.ncq_midfile.proofs.Parts.{all_push, all_take}
use Rattle.ncq_midfile.proofs.Wide.{all_filtered}
use Rattle.ncq_midfile.proofs.Withins.{numbered_of}

-- the items behind a slice of which each was cut
pub cut_whole : {A : Type 0} (f : A → A) (items cut : List A) (n : ℕ) → cut ≡ map f items → length items ≤ n → take n (cut ++ drop (length cut) items) ≡ map f items
cut_whole f items cut n e h =
    let long : length cut ≡ length items = ap length e ∙ length-map items f in
    whole_taken items cut n long h ∙ e

module _ (slot : ℕ) where
  abbrev Has : SignedRow → Type 0
  Has r = HasNumber slot r.row

  -- what is equal to the parts of a range file
  pub ranged_as : (rows new : List SignedRow) (finders new_finders : List Finder) → rows ≡ new → finders ≡ new_finders → IsRanged slot rows finders → IsRanged slot new new_finders
  ranged_as rows new finders new_finders p q f = subst (IsRanged slot new) q (subst (λ rs. IsRanged slot rs finders) p f)

  module _ (rows : List SignedRow) (finders : List Finder) (f : IsRanged slot rows finders) where
    -- other finders of the same rows
    pub ranged_by : (new : List Finder) → AreFinders new rows → IsRanged slot rows new
    ranged_by new found = record { numbered = f.numbered; numbers = f.numbers; covers = found }

    -- one row more
    pub ranged_push : (r : SignedRow) → Has r → AllByRecursion (λ x. x.number ≤ r.number) rows → IsRanged slot (rows ++ r ∷ []) finders
    ranged_push r one last = record {
      numbered = numbered_push 0 rows r (omega arith) f.numbered last;
      numbers = All-from_recursion Has (rows ++ r ∷ []) (all_push Has rows r (recursion_from_All Has rows f.numbers) one);
      covers = finders_append finders rows (r ∷ []) f.covers;
    }

    -- the rows that pass a test, of which some in front stay
    pub ranged_of : (test : Row → Bool) (k : ℕ) → take k (of_rows test rows) ≡ take k rows → IsRanged slot (of_rows test rows) (map (cut_finder k) finders)
    ranged_of test k same = record {
      numbered = numbered_of (λ r. test r.row) 0 rows f.numbered;
      numbers = All-from_recursion Has (of_rows test rows) (all_filtered Has (λ r. test r.row) rows (recursion_from_All Has rows f.numbers));
      covers = finders_front finders rows (of_rows test rows) k f.covers same;
    }

    -- the first rows
    pub ranged_take : (k : ℕ) → IsRanged slot (take k rows) (map (cut_finder k) finders)
    ranged_take k = record {
      numbered = numbered_take 0 k rows f.numbered;
      numbers = All-from_recursion Has (take k rows) (all_take Has k rows (recursion_from_All Has rows f.numbers));
      covers = finders_cut finders rows k f.covers;
    }

    -- the rows at a part of the places
    pub ranged_at : (places : List ℕ) → IsPart places (range_with_len 0 (length rows)) → IsRanged slot (signed_at places rows) (map (cut_finder 0) finders)
    ranged_at places part = record {
      numbered = part_numbered 0 places (range_with_len 0 (length rows)) rows part (subst (AreNumbered 0) (sym (all_places rows)) f.numbered);
      numbers = All-from_recursion Has (signed_at places rows)
          (part_each Has places (range_with_len 0 (length rows)) rows part (subst (AllByRecursion Has) (sym (all_places rows)) (recursion_from_All Has rows f.numbers)));
      covers = finders_front finders rows (signed_at places rows) 0 f.covers refl;
    }
