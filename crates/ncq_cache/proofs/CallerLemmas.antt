-- What holds of all pairs of a cache holds of what is found, and of what is left and put.
use Rattle.std.proofs.Common.{◌≡◌, ℕ, zero, suc, ◌-◌, true, false, List, [], ◌∷◌, take}
use Rattle.std.proofs.Common.{Option, Some, None, IfSome, refl, sym, ◌∙◌, ap, subst, cond}
use Rattle.std.specs.List.{AllByRecursion}
use Rattle.std.specs.Map.{lookup, lookup_entry, remove_entry}
use Rattle.std.specs.Option.{option_map_or}
use Rattle.ncq_base.specs.Exact.{exact_is}
use Rattle.ncq_bag.specs.declared.bag.Difference.{Difference}
use Rattle.ncq_cache.specs.Cached.{Cached, found, is_key, left, most_cached, with_pair}
use Rattle.ncq_cache.specs.contracts.key.NoticeKey.{the_row as key_row}
use Rattle.ncq_cache.specs.declared.key.NoticeKey.{NoticeKey}

module _ (holds : NoticeKey → List Difference → Type 0) where
  -- it holds of the pair
  abbrev pub OfPair : Cached → Type 0
  OfPair pair = holds pair.0 pair.1

  pub found_holds : (key : NoticeKey) (pairs : List Cached) → AllByRecursion OfPair pairs
      → IfSome (found key pairs) (holds key)
  found_holds key [] all = tt
  found_holds key (pair ∷ pairs) all =
      elim (is_key key pair.0) as
      (λ t. is_key key pair.0 ≡ t
      → IfSome (cond t (Some pair.1) (lookup (is_key key) pairs)) (holds key)) [
        | true ↦ λ e. subst (λ k. holds k pair.1) (sym (exact_is key_row.coded key pair.0 e)) all.0
        | false ↦ λ e. found_holds key pairs all.1
      ] refl

  pub left_holds : (key : NoticeKey) (pairs : List Cached) → AllByRecursion OfPair pairs
      → AllByRecursion OfPair (left key pairs)
  left_holds key [] all = tt
  left_holds key (pair ∷ pairs) all =
      elim (is_key key pair.0) as
      (λ t. AllByRecursion OfPair (cond t pairs (pair ∷ remove_entry (is_key key) pairs))) [
        | true ↦ all.1
        | false ↦ (all.0, left_holds key pairs all.1)
      ]

  front_holds : (n : ℕ) (pairs : List Cached) → AllByRecursion OfPair pairs
      → AllByRecursion OfPair (take n pairs)
  front_holds zero pairs all = tt
  front_holds (suc n) [] all = tt
  front_holds (suc n) (pair ∷ pairs) all = (all.0, front_holds n pairs all.1)

  -- a pair that is found under the key has that key
  entry_is : (key : NoticeKey) (pairs : List Cached) (entry : Cached)
      → lookup_entry (is_key key) pairs ≡ Some entry → key ≡ entry.0
  entry_is key [] entry e = absurd cc
  entry_is key (pair ∷ pairs) entry e =
      elim (is_key key pair.0) as
      (λ t. is_key key pair.0 ≡ t
      → cond t (Some pair) (lookup_entry (is_key key) pairs) ≡ Some entry → key ≡ entry.0) [
        | true ↦ λ t q. let same : pair ≡ entry = cc in
            exact_is key_row.coded key pair.0 t ∙ ap (λ (p : Cached). p.0) same
        | false ↦ λ t q. entry_is key pairs entry q
      ] refl e

  pub put_holds : (key : NoticeKey) (entries : List Difference) (pairs : List Cached)
      → AllByRecursion OfPair pairs → holds key entries
      → AllByRecursion OfPair (with_pair key entries pairs)
  put_holds key entries pairs all here = by (lookup_entry (is_key key) pairs) refl
    where
      by : (o : Option Cached) → lookup_entry (is_key key) pairs ≡ o
          → AllByRecursion OfPair (option_map_or
          (λ e. (e.0, entries) ∷ remove_entry (is_key key) pairs) o
          ((key, entries) ∷ take (most_cached - 1) pairs))
      by None e = (here, front_holds (most_cached - 1) pairs all)
      by (Some entry) e =
          (subst (λ k. holds k entries) (entry_is key pairs entry e) here, left_holds key pairs all)
