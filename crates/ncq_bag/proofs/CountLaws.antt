-- Counts after changes.
use Rattle.std.proofs.Common.{◌≡◌, ℕ, zero, suc, ◌<◌, Bool, true, false, cond, List, [], ◌∷◌, ◌++◌, map}
use Rattle.std.proofs.Common.{Option, Some, None, refl, sym, ap, ◌∙◌, subst, arith, append_assoc}
use Rattle.std.specs.Option.{unwrap_or}
use Rattle.std.specs.List.{flat_map, AllByRecursion}
use Rattle.std.specs.List.Sorted.{IsStrictlySortedBy}
use Rattle.std.specs.Map.{lookup}
use Rattle.std.specs.Ordering.{nat_cmp, is_eq}
use Rattle.std.specs.declared.cmp.Ordering.TheVariants.{Less}
use Rattle.std.specs.Cmp.Lexicographic.{slice_cmp, texts_ties, nat_list_cmp_total}
use Rattle.std.specs.FinMap.{get, insert, get-insert, get-remove}
use Rattle.std.specs.Str.{bytes_eq}
use Rattle.ncq_base.specs.Keys.{ByBytes, map_of}
use Rattle.ncq_base.proofs.Keyed.{is_key_equiv, get_map_of}
use Rattle.ncq_bag.specs.Counts.{stands, with_count, changed, CanChange, Fits, IsChange, after_one}
use Rattle.ncq_bag.specs.declared.bag.Difference.{Difference}

-- how often a byte string stands once the count of one was set
pub stands_with : (counts : ByBytes ℕ) (key : List ℕ) (n : ℕ) (q : List ℕ)
    → stands (with_count counts key n) q ≡ cond (bytes_eq q key) n (stands counts q)
stands_with counts key zero q =
    ap (λ (o : Option ℕ). unwrap_or o 0) (get-remove nat_list_cmp_total counts key q)
    ∙ ap (λ (t : Bool). unwrap_or (cond t None (get counts q)) 0) (sym (texts_ties q key))
    ∙ either (bytes_eq q key) (get counts q)
  where
    either : (t : Bool) (o : Option ℕ) → unwrap_or (cond t None o) 0 ≡ cond t 0 (unwrap_or o 0)
    either true o = refl
    either false o = refl
stands_with counts key (suc n) q =
    ap (λ (o : Option ℕ). unwrap_or o 0) (get-insert nat_list_cmp_total counts key (suc n) q)
    ∙ ap (λ (t : Bool). unwrap_or (cond t (Some (suc n)) (get counts q)) 0) (sym (texts_ties q key))
    ∙ either (bytes_eq q key) (get counts q)
  where
    either : (t : Bool) (o : Option ℕ) → unwrap_or (cond t (Some (suc n)) o) 0 ≡ cond t (suc n) (unwrap_or o 0)
    either true o = refl
    either false o = refl

-- a count above 0 is inserted
pub with_some : (counts : ByBytes ℕ) (key : List ℕ) (n : ℕ) → 0 < n
    → insert counts key n ≡ with_count counts key n
with_some counts key zero some = absurd (omega arith)
with_some counts key (suc n) some = refl

-- what is counted at a key, where a look-up finds it
pub count_is : (es : List (List ℕ × ℕ)) (key : List ℕ) (found : Option ℕ) (n : ℕ) → n ≡ unwrap_or found 0
    → found ≡ lookup (bytes_eq key) es → n ≡ stands (map_of es) key
count_is es key found n is by = is ∙ ap (λ (o : Option ℕ). unwrap_or o 0) (by ∙ sym (get_map_of es key))

-- a later byte string is another one
another : (key q : List ℕ) → slice_cmp nat_cmp key q ≡ Less → bytes_eq q key ≡ false
another key q less = is_key_equiv.symm q key ∙ texts_ties key q ∙ ap is_eq less

fits_later : (counts : ByBytes ℕ) (key : List ℕ) (n : ℕ) (changes : List Difference)
    → AllByRecursion (λ q. slice_cmp nat_cmp key q ≡ Less) (map (λ d. d.bytes) changes)
    → AllByRecursion (Fits counts) changes → AllByRecursion (Fits (with_count counts key n)) changes
fits_later counts key n [] above fits = tt
fits_later counts key n (d ∷ changes) above fits =
    let same : stands (with_count counts key n) d.bytes ≡ stands counts d.bytes =
    stands_with counts key n d.bytes
    ∙ ap (λ (t : Bool). cond t n (stands counts d.bytes)) (another key d.bytes above.0) in (
      subst (λ (m : ℕ). CanChange m d.gain d.count) (sym same) fits.0,
      fits_later counts key n changes above.1 fits.1,
    )

-- what follows a change can be made after it
pub later : (counts : ByBytes ℕ) (d : Difference) (changes : List Difference) → IsChange counts (d ∷ changes)
    → IsChange (after_one counts d) changes
unfolding IsStrictlySortedBy
later counts d changes is = record {
  rising = is.rising.1;
  fits =
      fits_later counts d.bytes (changed (stands counts d.bytes) d.gain d.count) changes is.rising.0 is.fits.1;
}

-- one more piece
pub one_more : {A B : Type 0} (f : A → List B) (out new whole : List B) (x : A) (left more : List A)
    → new ≡ out ++ f x → left ≡ x ∷ more → out ++ flat_map f left ≡ whole → new ++ flat_map f more ≡ whole
one_more f out new whole x left more is split all =
    (λ i. is i ++ flat_map f more) ∙ append_assoc out (f x) (flat_map f more)
    ∙ (λ i. out ++ flat_map f (sym split i)) ∙ all
