-- What is left of intervals with files when one is taken away.
use Rattle.std.proofs.Common.{◌≡◌, ℕ, ◌<◌, Bool, true, false, ◌&&◌, List, ◌∷◌, length, get_or, position, Option, Some, None, is_some, refl, sym, ap, ◌∙◌, subst, true≢false}
use Rattle.std.specs.Map.{lookup, keys_of, values_of}
use Rattle.std.proofs.lemmas.Bool.Decides.{Decides-int_eq}
use Rattle.std.proofs.lemmas.List.Quantifiers.{position-Some}
use Rattle.std.proofs.lemmas.List.Sorted.{IsPermutation-swap_remove}
use Rattle.std.proofs.lemmas.Map.Entries.{length-keys_of}
use Rattle.std.proofs.Math.ListN.{get_or-map}
use Rattle.std.proofs.lemmas.Option.{get_or_from_slice_get}
use Rattle.std.specs.List as holes
use Rattle.indexmap.specs.IndexMap.{swap_remove_entry}
use Rattle.indexmap.proofs.MapLemmas.{some_index, Found-position, swap_remove_entry-found}
use Rattle.ncq_base.specs.Counts.{total_by, SameCounts}
use Rattle.ncq_base.proofs.CountLaws.{counts_from_permutation}
use Rattle.ncq_base.specs.declared.atom.FileId.{FileId}
use Rattle.ncq_base.specs.declared.interval.End.{End}
use Rattle.ncq_base.specs.declared.interval.End.TheVariants.{Unbounded, Included, Excluded}
use Rattle.ncq_base.specs.declared.interval.Interval.{Interval}
use Rattle.ncq_base.specs.contracts.interval.EndPartialEq.TheImpl.{ghosts as end_eq}
use Rattle.ncq_consttab.specs.Ranges.{is_interval}

pub both : (s t : Bool) → (s && t) ≡ true → (s ≡ true) × (t ≡ true)
both true t h = (refl, h)
both false t h = cc

end_is : (a b : End) → end_eq.eq a b ≡ true → a ≡ b
end_is Unbounded Unbounded h = refl
end_is (Included m) (Included n) h = ap Included ((Decides-int_eq m n).0 h)
end_is (Excluded m) (Excluded n) h = ap Excluded ((Decides-int_eq m n).0 h)
end_is Unbounded (Included n) h = cc
end_is Unbounded (Excluded n) h = cc
end_is (Included m) Unbounded h = cc
end_is (Included m) (Excluded n) h = cc
end_is (Excluded m) Unbounded h = cc
end_is (Excluded m) (Included n) h = cc

-- intervals that the test takes for one are one
pub interval_is : (a b : Interval) → is_interval a b ≡ true → a ≡ b
interval_is a b h =
    let e = both (end_eq.eq a.low b.low) (end_eq.eq a.high b.high) h in
    λ i. record { low = end_is a.low b.low e.0 i; high = end_is a.high b.high e.1 i }

place_of : (o : Option ℕ) → is_some o ≡ true → (i : ℕ) × (o ≡ Some i)
place_of None h = absurd (true≢false (sym h))
place_of (Some i) h = (i, refl)

-- an interval that was found, and what is left without it, are what was there
pub swapped_out : (es : List (Interval × FileId)) (k : Interval) (v : FileId) → lookup (is_interval k) es ≡ Some v
    → SameCounts es ((k, v) ∷ swap_remove_entry (is_interval k) es)
swapped_out es k v found =
    let d : Interval × FileId = (k, v) in
    let p = place_of (position (is_interval k) (keys_of es)) (some_index (is_interval k) es ∙ ap is_some found) in
    let at = position-Some (is_interval k) (keys_of es) p.0 k p.1 in
    let within : p.0 < length es = subst (λ n. p.0 < n) (length-keys_of es) at.0 in
    let key : k ≡ (get_or es p.0 d).0 = interval_is k (get_or (keys_of es) p.0 k) at.1 ∙ get_or-map (λ (e : Interval × FileId). e.0) es p.0 d in
    let value : v ≡ (get_or es p.0 d).1 =
    sym (get_or_from_slice_get (values_of es) p.0 v v (sym (Found-position (is_interval k) es p.0 p.1).value ∙ found))
    ∙ get_or-map (λ (e : Interval × FileId). e.1) es p.0 d in
    let is : d ≡ get_or es p.0 d = λ i. (key i, value i) in
    λ f. counts_from_permutation es (d ∷ holes.swap_remove es p.0 d) (IsPermutation-swap_remove es p.0 d within is) f
    ∙ ap (λ (rest : List (Interval × FileId)). total_by f (d ∷ rest)) (sym (swap_remove_entry-found (is_interval k) es p.0 d p.1))
