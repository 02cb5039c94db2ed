-- What finds subscriptions: one is found, and then not again.
use Rattle.std.proofs.Common.{◌≡◌, ℕ, ◌<◌, true, false, List, [], ◌∷◌, ◌++◌, refl, sym, ◌∙◌, ap, arith, cond}
use Rattle.std.specs.Prelude.{Some, None}
use Rattle.std.specs.List.{AllByRecursion}
use Rattle.std.specs.Map.{lookup, remove_entry}
use Rattle.std.specs.BTreeMap.{is_at}
use Rattle.std.specs.Ordering.{nat_cmp}
use Rattle.std.specs.Str.{bytes_eq}
use Rattle.std.proofs.lemmas.Bool.Decides.{nat_tests}
use Rattle.std.proofs.lemmas.Slice.Eq.{bytes_eq-Decides}

-- a name that was free is put and freed
pub name_freed : (name other : List ℕ) (install : ℕ) (old put freed : List (List ℕ × ℕ)) → lookup (bytes_eq name) old ≡ None
    → lookup (bytes_eq other) put ≡ cond (bytes_eq name other) (Some install) (lookup (bytes_eq other) old)
    → lookup (bytes_eq other) freed ≡ cond (bytes_eq name other) None (lookup (bytes_eq other) put)
    → lookup (bytes_eq other) freed ≡ lookup (bytes_eq other) old
name_freed name other install old put freed free more less =
    less ∙ (λ i. cond (bytes_eq name other) None (more i))
    ∙ elim (bytes_eq name other) as (λ t. bytes_eq name other ≡ t → cond t None (cond t (Some install) (lookup (bytes_eq other) old)) ≡ lookup (bytes_eq other) old) [
      | true ↦ λ h. sym (ap (λ n. lookup (bytes_eq n) old) (sym ((bytes_eq-Decides name other).0 h)) ∙ free)
      | false ↦ λ h. refl
    ] refl

-- an entry above all others is put and removed
pub entry_gone : {X : Type 0} (install : ℕ) (value : X) (es : List (ℕ × X)) → AllByRecursion (λ (e : ℕ × X). e.0 < install) es → remove_entry (is_at (nat_cmp install)) (es ++ (install, value) ∷ []) ≡ es
entry_gone install value [] above =
    let here : is_at (nat_cmp install) install ≡ true = grind (arith, nat_tests) in
    λ i. cond (here i) [] ((install, value) ∷ [])
entry_gone install value (e ∷ es) above =
    let up = above.0 in
    let other : is_at (nat_cmp install) e.0 ≡ false = grind (arith, nat_tests) in
    λ i. cond (other i) (es ++ (install, value) ∷ []) (e ∷ entry_gone install value es above.1 i)
