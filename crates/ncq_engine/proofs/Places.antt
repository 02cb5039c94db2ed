-- A source of the store, found by its name, and what changing it changes.
use Rattle.std.proofs.Common.{◌≡◌, ℕ, zero, suc, ◌+◌, ◌<◌, Bool, true, false, cond, not, nat_lt, List, [], ◌∷◌, ◌++◌, map, length, get_or, slice_get, refl, sym, ◌∙◌, ap, arith, true≢false}
use Rattle.std.specs.Prelude.{Some, None, if◌then◌else◌}
use Rattle.std.specs.List.{position, position_or_len}
use Rattle.std.proofs.lemmas.Bool.Decides.{nat_tests}
use Rattle.std.proofs.lemmas.List.Quantifiers.{position-Some}
use Rattle.std.specs.FinMap.{empty}
use Rattle.std.specs.Str.{bytes_eq}
use Rattle.ncq_source.specs.Stores.{Source as Declared, declared, without_room}
use Rattle.ncq_source.specs.declared.key.Key.{Key}
use Rattle.ncq_engine.specs.History.{Source, source_in}
use Rattle.ncq_engine.specs.Stands.{content_of}

abbrev names_of : List Declared → List (List ℕ)
names_of all = map (λ d. d.name) all

not_some : {A : Type 0} (b : Bool) (x : A) → (if b then Some x else None) ≡ None → b ≡ false
not_some true x e = cc
not_some false x e = refl

none_from : (name : List ℕ) (all : List Declared) → nat_lt (position_or_len (bytes_eq name) (names_of all)) (length (names_of all)) ≡ false → source_in name (map content_of all) ≡ None
none_from name [] e = refl
none_from name (d ∷ all) e =
    elim (bytes_eq name d.name) as (λ t. nat_lt (cond (not t) (1 + position_or_len (bytes_eq name) (names_of all)) 0) (suc (length (names_of all))) ≡ false
    → (if t then Some (content_of d) else source_in name (map content_of all)) ≡ None) [
      | true ↦ λ h. let bad : true ≡ false = grind (arith, nat_tests, h) in absurd (true≢false bad)
      | false ↦ λ h. none_from name all (let less : nat_lt (position_or_len (bytes_eq name) (names_of all)) (length (names_of all)) ≡ false = grind (arith, nat_tests, h) in less)
    ] e

-- a name that is not found names no source
pub not_found : (name : List ℕ) (all : List Declared) → position (bytes_eq name) (map (λ d. d.name) all) ≡ None → source_in name (map content_of all) ≡ None
not_found name all e = none_from name all (not_some _ _ e)

same_Some : {A : Type 0} (x y : A) → Some x ≡ Some y → x ≡ y
same_Some x y e = cc

within_names : (all : List Declared) (at : ℕ) → at < length (names_of all) → at < length all
within_names [] at h = h
within_names (d ∷ all) zero h = omega arith
within_names (d ∷ all) (suc at) h = let rest = within_names all at (let less : at < length (names_of all) = omega (arith, h) in less) in omega (arith, rest)

-- the first source of the name, at its place
module _ (name : List ℕ) where
  at_place : (all : List Declared) (at : ℕ) (d : Declared) → slice_get all at ≡ Some d → bytes_eq name (get_or (names_of all) at []) ≡ true
      → ((k : ℕ) → k < at → bytes_eq name (get_or (names_of all) k []) ≡ false) → source_in name (map content_of all) ≡ Some (content_of d)
  at_place [] at d here is before = cc
  at_place (x ∷ all) zero d here is before =
      (λ i. if is i then Some (content_of x) else source_in name (map content_of all)) ∙ ap (λ (y : Declared). Some (content_of y)) (same_Some x d here)
  at_place (x ∷ all) (suc at) d here is before =
      (λ i. if before 0 (let some : 0 < suc at = omega arith in some) i then Some (content_of x) else source_in name (map content_of all))
      ∙ at_place all at d here is (λ k less. before (suc k) (let more : suc k < suc at = omega (arith, less) in more))

  pub is_found : (all : List Declared) (at : ℕ) (d : Declared) → position (bytes_eq name) (map (λ d. d.name) all) ≡ Some at → slice_get all at ≡ Some d → source_in name (map content_of all) ≡ Some (content_of d)
  is_found all at d found here = let p = position-Some (bytes_eq name) (names_of all) at [] found in at_place all at d here p.1 p.2

  pub found_within : (all : List Declared) (at : ℕ) → position (bytes_eq name) (map (λ d. d.name) all) ≡ Some at → at < length all
  found_within all at found = let p = position-Some (bytes_eq name) (names_of all) at [] found in within_names all at p.0

map_map : {A B C : Type 0} (f : A → B) (g : B → C) (xs : List A) → map (λ x. g (f x)) xs ≡ map g (map f xs)
map_map f g [] = refl
map_map f g (x ∷ xs) = ap (λ ys. g (f x) ∷ ys) (map_map f g xs)

map_push : {A B : Type 0} (f : A → B) (xs : List A) (x : A) → map f (xs ++ x ∷ []) ≡ map f xs ++ f x ∷ []
map_push f [] x = refl
map_push f (y ∷ xs) x = ap (λ ys. f y ∷ ys) (map_push f xs x)

pub contents : (all : List Declared) → map content_of all ≡ map content_of (map without_room all)
contents all = map_map without_room content_of all

-- room is no content
pub room_is_no_content : (old new : List Declared) → map without_room new ≡ map without_room old → map content_of new ≡ map content_of old
room_is_no_content old new e = contents new ∙ ap (map content_of) e ∙ sym (contents old)

pub one_declared : (old new : List Declared) (name root : List ℕ) (key : Key) → map without_room new ≡ map without_room old ++ declared name root key ∷ []
    → map content_of new ≡ map content_of old ++ record { name = name; root = root; key = key; elements = empty } ∷ []
one_declared old new name root key e =
    contents new ∙ ap (map content_of) e ∙ map_push content_of (map without_room old) (declared name root key)
    ∙ ap (λ (ss : List Source). ss ++ record { name = name; root = root; key = key; elements = empty } ∷ []) (sym (contents old))

pub same_names : (old new : List Declared) → map without_room new ≡ map without_room old → map (λ d. d.name) new ≡ map (λ d. d.name) old
same_names old new e = map_map without_room (λ w. w.name) new ∙ ap (map (λ w. w.name)) e ∙ sym (map_map without_room (λ w. w.name) old)
