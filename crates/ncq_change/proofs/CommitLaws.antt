-- A change that a store commits leads from the elements before to those after.
use Rattle.std.proofs.Common.{true, ◌≡◌, ℕ, suc, List, [], ◌∷◌, map, length, slice_get, position, Option, Some, None, refl, sym, ap, ◌∙◌, subst, arith}
use Rattle.std.specs.Option.{option_and_then}
use Rattle.std.specs.Str.{bytes_eq}
use Rattle.ncq_source.specs.Changes.{Chains, prepared}
use Rattle.ncq_source.specs.Changes.Trial.{Good}
use Rattle.ncq_source.specs.Changes as changes
use Rattle.ncq_source.specs.ChangeStates.{entries_at}
use Rattle.ncq_source.specs.Held.{Kept}
use Rattle.ncq_source.specs.Stores.{Source, without_room}
use Rattle.ncq_source.specs.StoreStates.{ArePortionsOf, FollowsPortion, StoreState, names, found}
use Rattle.ncq_source.specs.declared.change.Entry.{Entry}
use Rattle.ncq_source.specs.declared.change.Portion.{Portion}
use Rattle.ncq_source.specs.declared.change.Section.{Section}
use Rattle.ncq_base.proofs.Keyed.{is_key_equiv}
use Rattle.ncq_source.proofs.Commits.{portion_there}
use Rattle.ncq_source.proofs.Folds.{fold_of_entries}
use Rattle.ncq_source.proofs.Places.{same_Some, same_at}
use Rattle.ncq_source.proofs.SectionLaws.{found_source}
use Rattle.ncq_change.specs.Entries.{IsChange}
use Rattle.ncq_change.specs.Stores.{elements_of, entries_in, kept_in, or_none, Applies}

-- the names of sources, with or without their room
plain_names : (sources : List Source) → map (λ s. s.name) (map without_room sources) ≡ map (λ s. s.name) sources
plain_names [] = refl
plain_names (s ∷ sources) = ap (λ names. s.name ∷ names) (plain_names sources)

abbrev name_of : Source → List ℕ
name_of s = s.name

-- lists of one length whose items agree place by place
same_list : (xs ys : List Source) → length ys ≡ length xs → ((at : ℕ) (s : Source) → slice_get xs at ≡ Some s → (t : Source) × (slice_get ys at ≡ Some t) × (t.name ≡ s.name)) → map name_of ys ≡ map name_of xs
same_list [] [] count each = refl
same_list [] (y ∷ ys) count each = absurd (omega (arith, count))
same_list (x ∷ xs) [] count each = absurd (omega (arith, count))
same_list (x ∷ xs) (y ∷ ys) count each =
    let first = each 0 x refl in
    let is : y ≡ first.0 = same_Some y first.0 first.1 in
    λ i. (ap name_of is ∙ first.2) i ∷ same_list xs ys (let less : length ys ≡ length xs = omega (arith, count) in less) (λ at s here. each (suc at) s here) i

follows_name : (s t : Source) (o : Option (List Entry)) (number : ℕ) → FollowsPortion s t o number → t.name ≡ s.name
follows_name s t None number f = ap name_of f
follows_name s t (Some es) number f = f.name

follows_elements : (s t : Source) (o : Option (List Entry)) (number : ℕ) → FollowsPortion s t o number → t.elements ≡ changes.after s.elements (or_none o)
follows_elements s t None number f = ap (λ (x : Source). x.elements) f
follows_elements s t (Some es) number f = f.elements

module _ (before ready after : StoreState) (change : List Portion) (applies : Applies before ready after change) where
  same_names : names after ≡ names before
  same_names =
      same_list ready.sources after.sources applies.committed.sources.count
      (λ at s here. let c = applies.committed.sources.each at s here in (c.0, c.1, follows_name s c.0 (entries_at at change) after.changes c.2))
      ∙ sym (plain_names ready.sources) ∙ ap (map name_of) applies.room.sources ∙ plain_names before.sources

  place_after : (name : List ℕ) (o : Option ℕ) → found before name ≡ o
      → elements_of (option_and_then (slice_get after.sources) o) ≡ changes.after (elements_of (option_and_then (slice_get before.sources) o)) (or_none (option_and_then (λ at. entries_at at change) o))
  place_after name None here = refl
  place_after name (Some at) here =
      let own = found_source before name at here in
      let r = same_at without_room ready.sources before.sources at own.0 applies.room.sources own.1 in
      let c = applies.committed.sources.each at r.0 r.1 in
      ap elements_of c.1
      ∙ follows_elements r.0 c.0 (entries_at at change) after.changes c.2
      ∙ ap (λ (x : Source). changes.after x.elements (or_none (entries_at at change))) r.2
      ∙ ap (λ (k : Kept). changes.after k (or_none (entries_at at change))) (ap elements_of (sym own.1))

  pub commits_after : (name : List ℕ) → kept_in after name ≡ changes.after (kept_in before name) (entries_in before change name)
  commits_after name = ap (λ all. elements_of (option_and_then (slice_get after.sources) (position (bytes_eq name) all))) same_names ∙ place_after name (found before name) refl

  pub commits_change : IsChange (kept_in before) (kept_in after) (entries_in before change)
  commits_change = record { chains = applies.chains; ends = commits_after }

chains_of : (store : StoreState) (sections : List Section) (change : List Portion) → ArePortionsOf store sections change → (at : ℕ) (s : Source) → slice_get store.sources at ≡ Some s → (o : Option (List Entry)) → entries_at at change ≡ o → Chains s.elements (or_none o)
chains_of store sections change portions at s here None is = tt
chains_of store sections change portions at s here (Some es) is =
    let portion = portion_there store sections at s here change portions.each es is in
    (fold_of_entries s.key 1 s.elements _ es portion.1).1

-- what sections do to a store says what its keys held
pub prepared_chains : (store : StoreState) (sections : List Section) (change : List Portion) → ArePortionsOf store sections change → (name : List ℕ) → Chains (kept_in store name) (entries_in store change name)
prepared_chains store sections change portions name = by (found store name) refl
  where
    by : (o : Option ℕ) → found store name ≡ o → Chains (elements_of (option_and_then (slice_get store.sources) o)) (or_none (option_and_then (λ at. entries_at at change) o))
    by None here = tt
    by (Some at) here =
        let own = found_source store name at here in
        subst (λ (x : Option Source). Chains (elements_of x) (or_none (entries_at at change))) (sym own.1) (chains_of store sections change portions at own.0 own.1 (entries_at at change) refl)

-- what is found by a name has that name
pub found_name : (store : StoreState) (name : List ℕ) (at : ℕ) → found store name ≡ Some at
    → (source : Source) × (slice_get store.sources at ≡ Some source) × (bytes_eq name source.name ≡ true)
found_name store name at here =
    let own = found_source store name at here in
    (own.0, own.1, subst (λ n. bytes_eq name n ≡ true) (sym own.2) (is_key_equiv.refl name))
