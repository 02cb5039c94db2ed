-- How many files are shown.
use Rattle.std.proofs.Common.{◌≡◌, ℕ, ◌+◌, false, cond, List, [], ◌∷◌, length, Some, None, is_some, nat_eq, refl, ap, ◌∙◌, add-one}
use Rattle.std.specs.Option.{option_map}
use Rattle.std.specs.Ordering.{nat_cmp}
use Rattle.std.specs.Map.{lookup, keys_of}
use Rattle.std.specs.List.{IsDistinct, AllByRecursion}
use Rattle.std.specs.FinMap.{get, len, len-insert, len-empty}
use Rattle.std.proofs.lemmas.Cmp.{nat_cmp_total}
use Rattle.std.proofs.lemmas.Map.Keys.{IsDistinct-head, IsDistinct-tail}
use Rattle.ncq_shelf.specs.KeptFiles.{KeptFile}
use Rattle.ncq_shelf.specs.Shown.{shown, state_of}
use Rattle.ncq_shelf.specs.declared.file.File.{File}
use Rattle.ncq_shelf.proofs.ShownFiles.{get_shown}
use Rattle.ncq_shelf.specs.Groups.{Groups}

module _ (gs : Groups) where
  none_at : (k : ℕ) (files : List (ℕ × File)) → AllByRecursion (λ y. nat_eq k y ≡ false) (keys_of files) → lookup (nat_eq k) files ≡ None
  none_at k [] h = refl
  none_at k (e ∷ files) h = (λ i. cond (h.0 i) (Some e.1) (lookup (nat_eq k) files)) ∙ none_at k files h.1

  -- where no number stands twice, as many files are shown as are kept
  pub len_shown : (files : List (ℕ × File)) → IsDistinct nat_eq (keys_of files) → len (shown gs files) ≡ length files
  len_shown [] apart = len-empty nat_cmp KeptFile
  len_shown (e ∷ files) apart =
      let none : get (shown gs files) e.0 ≡ None = get_shown gs files e.0 ∙ ap (option_map (state_of gs)) (none_at e.0 files (IsDistinct-head nat_eq e.0 (keys_of files) apart)) in
      len-insert nat_cmp_total (shown gs files) e.0 (state_of gs e.1)
      ∙ ap (λ o. cond (is_some o) (len (shown gs files)) (len (shown gs files) + 1)) none
      ∙ ap (λ (n : ℕ). n + 1) (len_shown files (IsDistinct-tail nat_eq e.0 (keys_of files) apart))
      ∙ add-one (length files)
