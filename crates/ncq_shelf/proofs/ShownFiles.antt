-- What is shown of the files at a number.
use Rattle.std.proofs.Common.{◌≡◌, ℕ, Bool, true, false, cond, List, [], ◌∷◌, map, Some, Option, nat_eq, refl, ◌∙◌}
use Rattle.std.specs.Option.{option_map}
use Rattle.std.specs.Ordering.{nat_cmp}
use Rattle.std.specs.Cmp.{unsigned_tied}
use Rattle.std.specs.Map.{lookup}
use Rattle.std.proofs.lemmas.Cmp.{nat_cmp_total}
use Rattle.std.specs.FinMap.{get, find, get-from_entries}
use Rattle.ncq_shelf.specs.Shown.{shown, state_of}
use Rattle.ncq_shelf.specs.declared.file.File.{File}
use Rattle.ncq_shelf.specs.Groups.{Groups}

module _ (gs : Groups) where
  mapped : (b : Bool) (f : File) (o : Option File) → cond b (Some (state_of gs f)) (option_map (state_of gs) o) ≡ option_map (state_of gs) (cond b (Some f) o)
  mapped true f o = refl
  mapped false f o = refl

  find_shown : (q : ℕ) (es : List (ℕ × File)) → find nat_cmp q (map (λ p. (p.0, state_of gs p.1)) es) ≡ option_map (state_of gs) (lookup (nat_eq q) es)
  find_shown q [] = refl
  find_shown q (e ∷ es) = (λ i. cond (unsigned_tied q e.0 i) (Some (state_of gs e.1)) (find_shown q es i)) ∙ mapped (nat_eq q e.0) e.1 (lookup (nat_eq q) es)

  -- the file that is shown at a number is the state of the one that is kept there
  pub get_shown : (es : List (ℕ × File)) (q : ℕ) → get (shown gs es) q ≡ option_map (state_of gs) (lookup (nat_eq q) es)
  get_shown es q = get-from_entries nat_cmp_total _ q ∙ find_shown q es
