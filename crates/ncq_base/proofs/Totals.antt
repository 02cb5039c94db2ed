-- Sums over the values of a finite map, and how a change of the map changes them.
use Rattle.std.proofs.Common.{◌≡◌, ℕ, ◌+◌, Bool, true, false, cond, ◌&&◌, T, List, [], ◌∷◌, length, refl, sym, ◌∙◌, ap, arith}
use Rattle.std.specs.Prelude.{Option, Some, None}
use Rattle.std.specs.Ordering.{nat_cmp, is_lt, is_eq, eq_by_cmp}
use Rattle.std.specs.declared.cmp.Ordering.{Ordering}
use Rattle.std.specs.declared.cmp.Ordering.TheVariants.{Less, Equal, Greater}
use Rattle.std.specs.Cmp.{eq_by_cmp_equiv}
use Rattle.std.specs.Cmp.Lexicographic.{slice_cmp, nat_list_cmp_total}
use Rattle.std.specs.FinMap.{find, get, insert, remove, entries, entries_sorted, len-entries, len-empty, is_sorted, get-entries, get-insert, get-remove, entries-insert, same_map}
use Rattle.std.specs.FinMap.Entries.{below_all, put, by_order}
use Rattle.std.specs.List.{IsDistinct, AllByRecursion}
use Rattle.std.specs.Map.{keys_of, lookup}
use Rattle.std.proofs.lemmas.Map.Keys.{IsDistinct-head, IsDistinct-tail}
use Rattle.std.specs.Str.{bytes_eq}
use Rattle.ncq_base.specs.Keys.{ByBytes, map_of, total, total_of, weight}
use Rattle.ncq_base.proofs.Keyed.{bytes_apart, get_map_of}
use Rattle.ncq_base.proofs.Tests.{both_true}

abbrev R : List ℕ → List ℕ → Ordering
R = slice_cmp nat_cmp

pub told : (b : Bool) → T b → b ≡ true
told true h = refl
told false h = absurd h

pub untold : (b : Bool) → b ≡ true → T b
untold true h = tt
untold false h = cc

pub not_tied : (r : Ordering) → is_lt r ≡ true → is_eq r ≡ false
not_tied Less h = refl
not_tied Equal h = cc
not_tied Greater h = cc

is_less : (r : Ordering) → is_lt r ≡ true → r ≡ Less
is_less Less h = refl
is_less Equal h = cc
is_less Greater h = cc

pub is_equal : (r : Ordering) → is_eq r ≡ true → r ≡ Equal
is_equal Less h = cc
is_equal Equal h = refl
is_equal Greater h = cc

tied_to_itself : (k : List ℕ) → eq_by_cmp R k k ≡ true
tied_to_itself k = (eq_by_cmp_equiv nat_list_cmp_total).refl k

module _ {X : Type 0} where
  -- a key below all others is not among them
  pub no_tie : (q : List ℕ) (es : List (List ℕ × X)) → below_all R q es ≡ true → find R q es ≡ None
  no_tie q [] h = refl
  no_tie q (e ∷ es) h =
      let b = both_true (is_lt (R q e.0)) (below_all R q es) h in
      (λ i. cond (not_tied (R q e.0) b.0 i) (Some e.1) (find R q es)) ∙ no_tie q es b.1

  lower : (q y : List ℕ) (es : List (List ℕ × X)) → R q y ≡ Less → below_all R y es ≡ true → below_all R q es ≡ true
  lower q y [] p h = refl
  lower q y (e ∷ es) p h =
      let b = both_true (is_lt (R y e.0)) (below_all R y es) h in
      λ i. is_lt (nat_list_cmp_total.trans q y e.0 p (is_less (R y e.0) b.0) i) && lower q y es p b.1 i

  module _ (f : X → ℕ) where
    put_total : (k : List ℕ) (v : X) (es : List (List ℕ × X)) → is_sorted R es ≡ true → total f (put R k v es) + weight f (find R k es) ≡ total f es + f v
    put_total k v [] h = omega arith
    put_total k v (e ∷ es) h =
        let b = both_true (below_all R e.0 es) (is_sorted R es) h in
        elim (R k e.0) as (λ r. R k e.0 ≡ r → total f (by_order r ((k, v) ∷ e ∷ es) ((e.0, v) ∷ es) (e ∷ put R k v es)) + weight f (cond (is_eq r) (Some e.1) (find R k es)) ≡ total f (e ∷ es) + f v) [
          | Less ↦ λ p. let none : weight f (find R k es) ≡ 0 = ap (weight f) (no_tie k es (lower k e.0 es p b.0)) in omega arith
          | Equal ↦ λ p. omega arith
          | Greater ↦ λ p. let rest = put_total k v es b.1 in omega arith
        ] refl

    pub insert_total : (m : ByBytes X) (k : List ℕ) (v : X) → total_of f (insert m k v) + weight f (get m k) ≡ total_of f m + f v
    insert_total m k v =
        let e : total_of f (insert m k v) ≡ total f (put R k v (entries m)) = ap (total f) (entries-insert nat_list_cmp_total m k v) in
        let g : weight f (get m k) ≡ weight f (find R k (entries m)) = ap (weight f) (get-entries m k) in
        let s = put_total k v (entries m) (told _ (entries_sorted m)) in
        omega arith

    kept_at : (t : Bool) (q k : List ℕ) (m : ByBytes X) (o : Option X) → eq_by_cmp R q k ≡ t → get m k ≡ o → cond t o (cond t None (get m q)) ≡ get m q
    kept_at true q k m o t is = sym is ∙ ap (get m) (sym (bytes_apart q k (is_equal (R q k) t)))
    kept_at false q k m o t is = refl

    none_at : (t : Bool) (q k : List ℕ) (m : ByBytes X) → eq_by_cmp R q k ≡ t → get m k ≡ None → cond t None (get m q) ≡ get m q
    none_at true q k m t is = sym is ∙ ap (get m) (sym (bytes_apart q k (is_equal (R q k) t)))
    none_at false q k m t is = refl

    -- a key that is removed and put again leaves the map as it was
    back : (m : ByBytes X) (k : List ℕ) (v : X) → get m k ≡ Some v → insert (remove m k) k v ≡ m
    back m k v is = same_map nat_list_cmp_total bytes_apart _ _ (λ q.
        get-insert nat_list_cmp_total (remove m k) k v q
        ∙ ap (λ (o : Option X). cond (eq_by_cmp R q k) (Some v) o) (get-remove nat_list_cmp_total m k q)
        ∙ kept_at (eq_by_cmp R q k) q k m (Some v) refl is)

    gone : (m : ByBytes X) (k : List ℕ) → get m k ≡ None → remove m k ≡ m
    gone m k is = same_map nat_list_cmp_total bytes_apart _ _ (λ q.
        get-remove nat_list_cmp_total m k q ∙ none_at (eq_by_cmp R q k) q k m refl is)

    removed_at : (m : ByBytes X) (k : List ℕ) → get (remove m k) k ≡ None
    removed_at m k = get-remove nat_list_cmp_total m k k ∙ ap (λ (t : Bool). cond t None (get m k)) (tied_to_itself k)

    remove_some : (m : ByBytes X) (k : List ℕ) (v : X) → get m k ≡ Some v → total_of f (remove m k) + f v ≡ total_of f m
    remove_some m k v is =
        let s = insert_total (remove m k) k v in
        let e : total_of f (insert (remove m k) k v) ≡ total_of f m = ap (total_of f) (back m k v is) in
        let w : weight f (get (remove m k) k) ≡ 0 = ap (weight f) (removed_at m k) in
        omega arith

    pub remove_total : (m : ByBytes X) (k : List ℕ) → total_of f (remove m k) + weight f (get m k) ≡ total_of f m
    remove_total m k =
        elim (get m k) as (λ o. get m k ≡ o → total_of f (remove m k) + weight f o ≡ total_of f m) [
          | None ↦ λ is. let e : total_of f (remove m k) ≡ total_of f m = ap (total_of f) (gone m k is) in omega arith
          | Some v ↦ λ is. remove_some m k v is
        ] refl

    absent : (k : List ℕ) (es : List (List ℕ × X)) → AllByRecursion (λ y. bytes_eq k y ≡ false) (keys_of es) → lookup (bytes_eq k) es ≡ None
    absent k [] h = refl
    absent k (e ∷ es) h = (λ i. cond (h.0 i) (Some e.1) (lookup (bytes_eq k) es)) ∙ absent k es h.1

    nothing_in : (es : List (List ℕ × X)) → length es ≡ 0 → total f es ≡ 0
    nothing_in [] e = refl
    nothing_in (x ∷ es) e = absurd (omega arith)

    -- where no key stands twice, the sum over the map of pairs is that over the pairs
    pub map_total : (es : List (List ℕ × X)) → IsDistinct bytes_eq (keys_of es) → total_of f (map_of es) ≡ total f es
    map_total [] apart = nothing_in (entries (map_of [])) (sym (len-entries (map_of [])) ∙ len-empty (slice_cmp nat_cmp) X)
    map_total (e ∷ es) apart =
        let none : weight f (get (map_of es) e.0) ≡ 0 = ap (weight f) (get_map_of es e.0 ∙ absent e.0 es (IsDistinct-head bytes_eq e.0 (keys_of es) apart)) in
        let one = insert_total (map_of es) e.0 e.1 in
        let rest = map_total es (IsDistinct-tail bytes_eq e.0 (keys_of es) apart) in
        omega arith
