-- The elements and the names that a store shows.
use Rattle.std.proofs.Common.{◌≡◌, ℕ, suc, ◌+◌, Bool, true, false, cond, not, ◌||◌, nat_lt, List, [], ◌∷◌, map, length, slice_get, position, Option, Some, None, refl, sym, ap, ◌∙◌, subst, is_some, true≢false, arith}
use Rattle.std.specs.Prelude.{IfSome, ◌↔◌}
use Rattle.std.specs.List.{list_any, position_or_len, IsDistinct, Contains}
use Rattle.std.specs.Map.{keys_of}
use Rattle.std.specs.FinMap.{get, entries}
use Rattle.std.specs.Cmp.Lexicographic.{texts_ties}
use Rattle.std.proofs.lemmas.Bool.Decides.{nat_tests}
use Rattle.std.proofs.lemmas.Map.Entries.{lookup_from_place}
use Rattle.std.proofs.lemmas.Map.Views.{Contains-from_lookup, lookup-from_Contains, list_any-from_Contains, Contains-from_any}
use Rattle.std.specs.Str.{bytes_eq}
use Rattle.ncq_base.specs.Keys.{times}
use Rattle.ncq_base.proofs.Keyed.{get_map_of, count_map_of, is_key_equiv, bytes_apart}
use Rattle.ncq_base.proofs.Totals.{is_equal}
use Rattle.ncq_tree.specs.declared.model.Element.{Element}
use Rattle.ncq_source.specs.Proper.{IsProper, HoldsProper}
use Rattle.ncq_source.specs.Held.{map_of}
use Rattle.ncq_source.specs.Stores.{Source, ShowsEach}
use Rattle.ncq_source.specs.StoreStates.{StoreState, names, found}
use Rattle.ncq_source.proofs.Places.{from_map}

-- keys that are one are equal
one_key : (x y : List ℕ) → bytes_eq x y ≡ true → x ≡ y
one_key x y h = bytes_apart x y (is_equal _ (sym (texts_ties x y) ∙ h))

-- a key holds an element exactly where the two are shown
pub shows_pairs : (source : Source) → ShowsEach source → (key : List ℕ) (element : Element) → get source.elements key ≡ Some element ↔ Contains source.shown (key, element)
shows_pairs source shows key element =
    let held = ap (λ m. get m key) shows.elements ∙ get_map_of source.shown key in (
      λ there. Contains-from_lookup one_key key element source.shown (sym held ∙ there),
      λ shown. held ∙ lookup-from_Contains is_key_equiv key element source.shown shows.once shown,
    )

-- a test passes as often among the elements as among those shown
pub shows_counts : (source : Source) → ShowsEach source → (test : List ℕ × Element → Bool) → times test (entries source.elements) ≡ times test source.shown
shows_counts source shows test = ap (λ m. times test (entries m)) shows.elements ∙ count_map_of test source.shown shows.once

some_below : (n : ℕ) → nat_lt 0 (suc n) ≡ true
some_below n = grind (arith, nat_tests)

one_further : (m n : ℕ) → nat_lt (1 + m) (suc n) ≡ nat_lt m n
one_further m n = elim (nat_lt m n) as (λ b. nat_lt m n ≡ b → nat_lt (1 + m) (suc n) ≡ b) [
  | true ↦ λ h. grind (arith, nat_tests, h)
  | false ↦ λ h. grind (arith, nat_tests, h)
] refl

module _ {A : Type 0} (test : A → Bool) where
  -- an item passes exactly where the place of the first is within
  some_place : (xs : List A) → nat_lt (position_or_len test xs) (length xs) ≡ list_any test xs
  some_place [] = refl
  some_place (x ∷ xs) = elim (test x) as (λ t. nat_lt (cond (not t) (1 + position_or_len test xs) 0) (suc (length xs)) ≡ (t || list_any test xs)) [
    | true ↦ some_below (length xs)
    | false ↦ one_further (position_or_len test xs) (length xs) ∙ some_place xs
  ]

  is_some_place : (b : Bool) (n : ℕ) → is_some (cond b (Some n) None) ≡ b
  is_some_place true n = refl
  is_some_place false n = refl

  is_some_position : (xs : List A) → is_some (position test xs) ≡ list_any test xs
  is_some_position xs = is_some_place (nat_lt (position_or_len test xs) (length xs)) (position_or_len test xs) ∙ some_place xs

none_of : {A : Type 0} (o : Option A) → (is_some o ≡ true → ⊥) → o ≡ None
none_of None h = refl
none_of (Some a) h = absurd (h refl)

pub finds_names : (store : StoreState) (name : List ℕ) → found store name ≡ None ↔ (Contains (names store) name → ⊥)
finds_names store name =
    let all = names store in
    let any = is_some_position (bytes_eq name) all in (
      λ none among. true≢false (sym (list_any-from_Contains is_key_equiv name all among) ∙ sym any ∙ ap is_some none),
      λ not_among. none_of (found store name) (λ some. not_among (Contains-from_any one_key name all (sym any ∙ some))),
    )

-- an element that is shown is proper where all are
pub shows_proper : (pairs : List (List ℕ × Element)) (at : ℕ) (element : Element) → HoldsProper (map_of pairs) → IsDistinct bytes_eq (keys_of pairs)
    → slice_get (map (λ p. p.1) pairs) at ≡ Some element → IsProper element
shows_proper pairs at element proper apart shown =
    let p = from_map (λ p. p.1) pairs at element shown in
    let held : get (map_of pairs) p.0.0 ≡ Some element = get_map_of pairs p.0.0 ∙ lookup_from_place is_key_equiv pairs at p.0.0 p.0.1 apart p.1 ∙ ap Some p.2 in
    subst (λ o. IfSome o IsProper) held (proper p.0.0)
