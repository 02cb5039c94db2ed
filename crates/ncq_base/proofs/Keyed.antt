-- Pairs as finite maps.
use Rattle.std.proofs.Common.{◌≡◌, ℕ, ◌+◌, Bool, true, false, cond, ◌&&◌, List, [], ◌∷◌, length, Some, None, refl, sym, ap, ◌∙◌, subst, true≢false, arith, T, is_some}
use Rattle.std.specs.Ordering.{nat_cmp, eq_by_cmp, is_lt, is_eq}
use Rattle.std.specs.declared.cmp.Ordering.TheVariants.{Less, Equal, Greater}
use Rattle.std.specs.Cmp.{IsEquivalence, eq_by_cmp_equiv}
use Rattle.std.specs.Cmp.Lexicographic.{slice_cmp, texts_ties, nat_list_cmp_total}
use Rattle.std.specs.List.{IsDistinct, AllByRecursion}
use Rattle.std.specs.List.Sorted.{IsStrictlySortedBy}
use Rattle.std.specs.Map.{lookup, keys_of}
use Rattle.std.specs.FinMap.{get, insert, remove, find, entries, from_sorted, is_sorted, entries-from_sorted, get-from_sorted, get-from_entries, get-insert, get-remove, get-entries, len-entries, len-empty, entries-insert, same_map, slice_cmp-IsAntisymmetric, nat_cmp-IsAntisymmetric, IsAntisymmetric}
use Rattle.std.specs.FinMap.Entries.{below_all, put, by_order}
use Rattle.std.proofs.lemmas.Cmp.{nat_list_eq_equiv}
use Rattle.std.proofs.lemmas.Map.Text.{is_eq-slice_cmp}
use Rattle.std.proofs.lemmas.Map.Keys.{sorted_head, sorted_tail, IsDistinct-head, IsDistinct-tail}
use Rattle.std.specs.Str.{bytes_eq}
use Rattle.ncq_base.specs.Keys.{map_of, times}

pub bytes_apart : IsAntisymmetric (slice_cmp nat_cmp)
bytes_apart = slice_cmp-IsAntisymmetric nat_cmp-IsAntisymmetric

pub turned : (k q : List ℕ) → bytes_eq k q ≡ eq_by_cmp (slice_cmp nat_cmp) q k
turned k q = texts_ties k q ∙ (eq_by_cmp_equiv nat_list_cmp_total).symm k q

pub find_is : {X : Type 0} (q : List ℕ) (es : List (List ℕ × X)) → find (slice_cmp nat_cmp) q es ≡ lookup (bytes_eq q) es
find_is q [] = refl
find_is q (e ∷ es) = λ i. cond (sym (texts_ties q e.0) i) (Some e.1) (find_is q es i)

-- what the map has is what a look-up finds
pub get_map_of : {X : Type 0} (es : List (List ℕ × X)) (q : List ℕ) → get (map_of es) q ≡ lookup (bytes_eq q) es
get_map_of es q = get-from_entries nat_list_cmp_total es q ∙ find_is q es

module _ {X : Type 0} (old new : List (List ℕ × X)) (k : List ℕ) where
  pub map_put : (v : X) → ((q : List ℕ) → lookup (bytes_eq q) new ≡ cond (bytes_eq k q) (Some v) (lookup (bytes_eq q) old)) → map_of new ≡ insert (map_of old) k v
  map_put v is = same_map nat_list_cmp_total bytes_apart _ _ (λ q.
      get_map_of new q ∙ is q
      ∙ (λ i. cond (turned k q i) (Some v) (sym (get_map_of old q) i))
      ∙ sym (get-insert nat_list_cmp_total (map_of old) k v q))

  pub map_gone : ((q : List ℕ) → lookup (bytes_eq q) new ≡ cond (bytes_eq k q) None (lookup (bytes_eq q) old)) → map_of new ≡ remove (map_of old) k
  map_gone is = same_map nat_list_cmp_total bytes_apart _ _ (λ q.
      get_map_of new q ∙ is q
      ∙ (λ i. cond (turned k q i) None (sym (get_map_of old q) i))
      ∙ sym (get-remove nat_list_cmp_total (map_of old) k q))

pub is_key_equiv : IsEquivalence bytes_eq
is_key_equiv = nat_list_eq_equiv

module _ {X : Type 0} where
  below : (k : List ℕ) (es : List (List ℕ × X)) → AllByRecursion (λ y. slice_cmp nat_cmp k y ≡ Less) (keys_of es) → below_all (slice_cmp nat_cmp) k es ≡ true
  below k [] h = refl
  below k (e ∷ es) h = λ i. is_lt (h.0 i) && below k es h.1 i

  rising : (es : List (List ℕ × X)) → IsStrictlySortedBy (slice_cmp nat_cmp) (keys_of es) → is_sorted (slice_cmp nat_cmp) es ≡ true
  rising [] h = refl
  rising (e ∷ es) h = λ i. below e.0 es (sorted_head _ _ _ h) i && rising es (sorted_tail _ _ _ h) i

  -- pairs with rising keys are the entries of their map
  pub entries_rising : (es : List (List ℕ × X)) → IsStrictlySortedBy (slice_cmp nat_cmp) (keys_of es) → entries (map_of es) ≡ es
  entries_rising es up =
      let up_to : T (is_sorted (slice_cmp nat_cmp) es) = subst T (sym (rising es up)) tt in
      ap entries (same_map nat_list_cmp_total bytes_apart (map_of es) (from_sorted es) (λ q.
      get_map_of es q ∙ sym (find_is q es) ∙ sym (get-from_sorted (slice_cmp nat_cmp) es q up_to)))
      ∙ entries-from_sorted (slice_cmp nat_cmp) es up_to

  -- a look-up by order finds what a look-up by equality finds
  pub ordered_lookup : (q : List ℕ) (es : List (List ℕ × X)) → lookup (λ k. is_eq (slice_cmp nat_cmp q k)) es ≡ lookup (bytes_eq q) es
  ordered_lookup q [] = refl
  ordered_lookup q (e ∷ es) = λ i. cond (is_eq-slice_cmp q e.0 i) (Some e.1) (ordered_lookup q es i)

  -- what one insert changes, by equality in place of order
  pub updated : (old new : List (List ℕ × X)) (k : List ℕ) (v : X)
      → ((q : List ℕ) → lookup (λ p. is_eq (slice_cmp nat_cmp q p)) new ≡ cond (is_eq (slice_cmp nat_cmp k q)) (Some v) (lookup (λ p. is_eq (slice_cmp nat_cmp q p)) old))
      → (q : List ℕ) → lookup (bytes_eq q) new ≡ cond (bytes_eq k q) (Some v) (lookup (bytes_eq q) old)
  updated old new k v h q = sym (ordered_lookup q new) ∙ h q ∙ (λ i. cond (is_eq-slice_cmp k q i) (Some v) (ordered_lookup q old i))

module _ {X : Type 0} (test : List ℕ × X → Bool) where
  swapped : (a b : Bool) (n : ℕ) → cond a 1 0 + (cond b 1 0 + n) ≡ cond b 1 0 + (cond a 1 0 + n)
  swapped a b n = omega arith

  count_put : (k : List ℕ) (v : X) (es : List (List ℕ × X)) → find (slice_cmp nat_cmp) k es ≡ None → times test (put (slice_cmp nat_cmp) k v es) ≡ times test ((k, v) ∷ es)
  count_put k v [] none = refl
  count_put k v (e ∷ es) none =
      elim (slice_cmp nat_cmp k e.0) as (λ r. slice_cmp nat_cmp k e.0 ≡ r → times test (by_order r ((k, v) ∷ e ∷ es) ((e.0, v) ∷ es) (e ∷ put (slice_cmp nat_cmp) k v es)) ≡ times test ((k, v) ∷ e ∷ es)) [
        | Less ↦ λ p. refl
        | Equal ↦ λ p. absurd (true≢false (ap is_some (subst (λ r. cond (is_eq r) (Some e.1) (find (slice_cmp nat_cmp) k es) ≡ None) p none)))
        | Greater ↦ λ p. ap (λ (n : ℕ). cond (test e) 1 0 + n) (count_put k v es (subst (λ r. cond (is_eq r) (Some e.1) (find (slice_cmp nat_cmp) k es) ≡ None) p none)) ∙ swapped (test e) (test (k, v)) (times test es)
      ] refl

  nothing : {A : Type 0} (xs : List A) → length xs ≡ 0 → xs ≡ []
  nothing [] e = refl
  nothing (x ∷ xs) e = absurd (omega arith)

  none_at : (k : List ℕ) (es : List (List ℕ × X)) → AllByRecursion (λ y. bytes_eq k y ≡ false) (keys_of es) → lookup (bytes_eq k) es ≡ None
  none_at k [] h = refl
  none_at k (e ∷ es) h = (λ i. cond (h.0 i) (Some e.1) (lookup (bytes_eq k) es)) ∙ none_at k es h.1

  -- where no key stands twice, the map's entries are the pairs in another order
  pub count_map_of : (es : List (List ℕ × X)) → IsDistinct bytes_eq (keys_of es) → times test (entries (map_of es)) ≡ times test es
  count_map_of [] apart = ap (times test) (nothing (entries (map_of [])) (sym (len-entries (map_of [])) ∙ len-empty (slice_cmp nat_cmp) X))
  count_map_of (e ∷ es) apart =
      let none = sym (get-entries (map_of es) e.0) ∙ get_map_of es e.0 ∙ none_at e.0 es (IsDistinct-head bytes_eq e.0 (keys_of es) apart) in
      ap (times test) (entries-insert nat_list_cmp_total (map_of es) e.0 e.1)
      ∙ count_put e.0 e.1 (entries (map_of es)) none
      ∙ ap (λ (n : ℕ). cond (test e) 1 0 + n) (count_map_of es (IsDistinct-tail bytes_eq e.0 (keys_of es) apart))
