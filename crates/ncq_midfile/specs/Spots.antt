-- At which places numbers stand. Only the crate's private clauses cite it.
use Rattle.std.specs.Prelude.{◌≡◌, ℕ, Bool, true, false, cond, ◌&&◌, ◌||◌, nat_eq}
use Rattle.std.specs.BTreeSet.{contains}
use Rattle.std.specs.List.{list_any}
use Rattle.std.specs.Option.{option_map_or}
use Rattle.std.specs.Ordering.{nat_cmp}
use Rattle.indexmap.specs.IndexMap.{get}
use Rattle.ncq_midfile.specs.declared.place_set.PlaceSet.{PlaceSet}
use Rattle.ncq_midfile.specs.declared.place_set.PlaceSet.TheVariants.{One, Two, Few, Many}
use Rattle.ncq_midfile.specs.declared.spots.Spots.{Spots}

-- whether the place is among the places
abbrev pub has_place : PlaceSet → ℕ → Bool
has_place (One only) place = nat_eq only place
has_place (Two one other) place = nat_eq one place || nat_eq other place
has_place (Few places) place = list_any (nat_eq place) places
has_place (Many places) place = contains nat_cmp places place

-- the place is among the new places, or is not, as told; all others stay
abbrev pub PutsPlace : PlaceSet → ℕ → Bool → PlaceSet → Type 0
PutsPlace old place there new =
    (q : ℕ) → has_place new q ≡ cond (nat_eq place q) there (has_place old q)

-- one place is not among the new places, and another is; all others stay
abbrev pub MovesPlace : PlaceSet → ℕ → ℕ → PlaceSet → Type 0
MovesPlace old from to new =
    (q : ℕ) → has_place new q ≡ cond (nat_eq from q) false (cond (nat_eq to q) true (has_place old
    q))

-- the same places are among both
abbrev pub HaveSamePlaces : PlaceSet → PlaceSet → Type 0
HaveSamePlaces old new = (q : ℕ) → has_place new q ≡ has_place old q

-- whether the number stands at the place
abbrev pub is_spot : Spots → ℕ → ℕ → Bool
is_spot spots number place =
    option_map_or (λ places. has_place places place) (get nat_eq spots.places number) false

-- the number stands at the place, or does not, as told; all else is as before
abbrev pub PutsSpot : Spots → ℕ → ℕ → Bool → Spots → Type 0
PutsSpot old number place there new =
    (n q : ℕ) → is_spot new n q ≡ cond (nat_eq number n && nat_eq place q) there (is_spot old n q)

-- the number stands no more at one place, and at another; all else is as before
abbrev pub MovesSpot : Spots → ℕ → ℕ → ℕ → Spots → Type 0
MovesSpot old number from to new =
    (n q : ℕ) → is_spot new n q ≡ cond (nat_eq number n && nat_eq from q) false
    (cond (nat_eq number n && nat_eq to q) true (is_spot old n q))

-- the same numbers stand at the same places
abbrev pub HaveSameSpots : Spots → Spots → Type 0
HaveSameSpots old new = (n q : ℕ) → is_spot new n q ≡ is_spot old n q
