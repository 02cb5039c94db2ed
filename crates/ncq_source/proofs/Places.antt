-- One source among others.
use Rattle.std.proofs.Common.{◌≡◌, ℕ, zero, suc, Option, is_some, true≢false, ◌<◌, Bool, true, false, arith, List, [], ◌∷◌, ◌++◌, map, length, set, get_or, slice_get, position, Some, None, cond, ◌||◌, ◌+◌, not, nat_lt, refl, sym, ap, ◌∙◌, subst}
use Rattle.std.specs.Option.{unwrap_or}
use Rattle.std.proofs.lemmas.Bool.Decides.{nat_tests}
use Rattle.std.proofs.Math.Seq.{map-set_same}
use Rattle.std.proofs.lemmas.Option.{unwrap_or-slice_get, slice_get_within}
use Rattle.std.proofs.lemmas.List.{get_or-set_same}
use Rattle.std.specs.List.{list_any, position_or_len}
use Rattle.std.specs.Option.{option_map}
use Rattle.std.proofs.lemmas.Option.{slice_get-map, slice_get-get_or}

pub same_Some : {A : Type 0} (x y : A) → Some x ≡ Some y → x ≡ y
same_Some x y e = ap (λ o. unwrap_or o x) e

-- an item is replaced by one that f cannot tell from it
pub map_set : {A B : Type 0} (f : A → B) (xs : List A) (i : ℕ) (x y : A) → slice_get xs i ≡ Some x → f y ≡ f x → map f (set xs i y) ≡ map f xs
map_set f xs i x y at same = map-set_same f xs i y x (same ∙ ap f (ap (λ o. unwrap_or o x) (sym at) ∙ unwrap_or-slice_get xs i x))

pub one_item : {A : Type 0} (xs : List A) (i : ℕ) (x y : A) → slice_get xs i ≡ Some x → slice_get xs i ≡ Some y → x ≡ y
one_item xs i x y p q = same_Some x y (sym p ∙ q)

-- what stands where an item was set
pub at_set : {A : Type 0} (xs : List A) (i : ℕ) (x y s : A) → slice_get xs i ≡ Some x → slice_get (set xs i y) i ≡ Some s → s ≡ y
at_set xs i x y s p q =
    let within : i < length xs = slice_get_within xs i x p in
    ap (λ o. unwrap_or o y) (sym q) ∙ unwrap_or-slice_get (set xs i y) i y ∙ get_or-set_same xs i y y within

module _ {A B : Type 0} (f : A → B) (test : B → Bool) where
  first_map : (xs : List A) → position_or_len (λ x. test (f x)) xs ≡ position_or_len test (map f xs)
  first_map [] = refl
  first_map (x ∷ xs) = ap (λ (n : ℕ). cond (not (test (f x))) (1 + n) 0) (first_map xs)

  length_map : (xs : List A) → length xs ≡ length (map f xs)
  length_map [] = refl
  length_map (x ∷ xs) = ap suc (length_map xs)

  pub position_map : (xs : List A) → position (λ x. test (f x)) xs ≡ position test (map f xs)
  position_map xs = λ i. cond (nat_lt (first_map xs i) (length_map xs i)) (Some (first_map xs i)) None

  pub any_map : (xs : List A) → list_any (λ x. test (f x)) xs ≡ list_any test (map f xs)
  any_map [] = refl
  any_map (x ∷ xs) = ap (λ b. test (f x) || b) (any_map xs)

module _ {A : Type 0} (test : A → Bool) where
  if_some : (t : Bool) (n : ℕ) → is_some (cond t (Some n) None) ≡ t
  if_some true n = refl
  if_some false n = refl

  none_before : (m : ℕ) → nat_lt 0 (suc m) ≡ true
  none_before m = grind (arith, nat_tests)

  both_less : (n m : ℕ) → nat_lt (1 + n) (suc m) ≡ nat_lt n m
  both_less n m = grind (arith, nat_tests)

  first_any : (xs : List A) → nat_lt (position_or_len test xs) (length xs) ≡ list_any test xs
  first_any [] = refl
  first_any (x ∷ xs) = elim (test x) as (λ t. nat_lt (cond (not t) (1 + position_or_len test xs) 0) (suc (length xs)) ≡ (t || list_any test xs)) [
    | true ↦ none_before (length xs)
    | false ↦ both_less (position_or_len test xs) (length xs) ∙ first_any xs
  ]

  -- a place is found exactly where an item passes
  pub place_any : (xs : List A) → is_some (position test xs) ≡ list_any test xs
  place_any xs = if_some (nat_lt (position_or_len test xs) (length xs)) (position_or_len test xs) ∙ first_any xs

module _ {A B : Type 0} (f : A → B) where
  -- one more at the end
  pub map_push : (xs : List A) (x : A) → map f (xs ++ x ∷ []) ≡ map f xs ++ f x ∷ []
  map_push [] x = refl
  map_push (y ∷ xs) x = ap (λ ys. f y ∷ ys) (map_push xs x)

-- an item is replaced by one that f cannot tell from it, where it is known by `get_or`
pub map_set_or : {A B : Type 0} (f : A → B) (xs : List A) (i : ℕ) (x y : A) → x ≡ get_or xs i x → f y ≡ f x → map f (set xs i y) ≡ map f xs
map_set_or f xs i x y at same = map-set_same f xs i y x (same ∙ ap f at)

-- what stands where an item was set
pub at_set_or : {A : Type 0} (xs : List A) (i : ℕ) (y s : A) → i < length xs → slice_get (set xs i y) i ≡ Some s → s ≡ y
at_set_or xs i y s within q = ap (λ o. unwrap_or o y) (sym q) ∙ unwrap_or-slice_get (set xs i y) i y ∙ get_or-set_same xs i y y within

-- the item that is found is the one that stands there
pub item_at : {A : Type 0} (xs : List A) (i : ℕ) (x s : A) → x ≡ get_or xs i x → slice_get xs i ≡ Some s → x ≡ s
item_at xs i x s at p = at ∙ sym (unwrap_or-slice_get xs i x) ∙ ap (λ o. unwrap_or o x) p

module _ {A B : Type 0} (f : A → B) where
  mapped : (o : Option A) (y : B) → option_map f o ≡ Some y → (x : A) × (o ≡ Some x) × (f x ≡ y)
  mapped None y h = absurd (true≢false (sym (ap is_some h)))
  mapped (Some x) y h = (x, refl, same_Some (f x) y h)

  -- what stands behind an item of a mapped list
  pub from_map : (xs : List A) (i : ℕ) (y : B) → slice_get (map f xs) i ≡ Some y → (x : A) × (slice_get xs i ≡ Some x) × (f x ≡ y)
  from_map xs i y h = mapped (slice_get xs i) y (sym (slice_get-map f xs i) ∙ h)

  -- lists that f cannot tell apart have items that f cannot tell apart
  pub same_at : (xs ys : List A) (i : ℕ) (y : A) → map f xs ≡ map f ys → slice_get ys i ≡ Some y → (x : A) × (slice_get xs i ≡ Some x) × (f x ≡ f y)
  same_at xs ys i y same here = from_map xs i (f y) (ap (λ l. slice_get l i) same ∙ slice_get-map f ys i ∙ ap (option_map f) here)

  -- the item at a place is seen at that place
  pub seen_at : (xs : List A) (i : ℕ) (x : A) (y : B) → x ≡ get_or xs i x → slice_get (map f xs) i ≡ Some y → y ≡ f x
  seen_at xs i x y at here = let p = from_map xs i y here in sym p.2 ∙ ap f (sym (item_at xs i x p.0 at p.1))

  pub length_of : (xs : List A) → length xs ≡ length (map f xs)
  length_of [] = refl
  length_of (x ∷ xs) = ap suc (length_of xs)

  -- what is seen at the place of an item
  pub seen_is : (xs : List A) (i : ℕ) (x : A) → i < length (map f xs) → x ≡ get_or xs i x → slice_get (map f xs) i ≡ Some (f x)
  seen_is xs i x within at =
      slice_get-map f xs i ∙ ap (option_map f) (slice_get-get_or xs i x (subst (λ n. i < n) (sym (length_of xs)) within)) ∙ ap (λ y. Some (f y)) (sym at)

  -- an item that was set is seen where it was set
  pub seen_set : (xs : List A) (i : ℕ) (y : A) (s : B) → i < length (map f xs) → slice_get (map f (set xs i y)) i ≡ Some s → s ≡ f y
  seen_set xs i y s within here =
      let p = from_map (set xs i y) i s here in
      sym p.2 ∙ ap f (at_set_or xs i y p.0 (subst (λ n. i < n) (sym (length_of xs)) within) p.1)

  pub map_set_is : (xs : List A) (i : ℕ) (y : A) → map f (set xs i y) ≡ set (map f xs) i (f y)
  map_set_is [] i y = refl
  map_set_is (x ∷ xs) zero y = refl
  map_set_is (x ∷ xs) (suc i) y = ap (λ ys. f x ∷ ys) (map_set_is xs i y)

  module _ {C : Type 0} (g : B → C) where
    map_map : (xs : List A) → map g (map f xs) ≡ map (λ x. g (f x)) xs
    map_map [] = refl
    map_map (x ∷ xs) = ap (λ ys. g (f x) ∷ ys) (map_map xs)

    -- an item is replaced by one that g cannot tell from it
    pub seen_same : (xs : List A) (i : ℕ) (x y : A) → x ≡ get_or xs i x → g (f y) ≡ g (f x) → map g (map f (set xs i y)) ≡ map g (map f xs)
    seen_same xs i x y at same = map_map (set xs i y) ∙ map_set_or (λ x. g (f x)) xs i x y at same ∙ sym (map_map xs)
