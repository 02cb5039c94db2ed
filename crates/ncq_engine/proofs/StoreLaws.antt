-- The last changes of sources, behind a declaration and behind a change.
use Rattle.std.proofs.Common.{◌≡◌, ℕ, true, false, List, [], ◌∷◌, ◌++◌, map, refl, sym, ◌∙◌, ap}
use Rattle.std.specs.Prelude.{Some, None, if◌then◌else◌}
use Rattle.std.specs.Str.{bytes_eq}
use Rattle.ncq_source.specs.Stores.{Source as Declared, declared, without_room}
use Rattle.ncq_source.specs.StoreStates.{StoreState}
use Rattle.ncq_source.specs.declared.key.Key.{Key}
use Rattle.ncq_engine.specs.Engines.{last_in, last_of}
use Rattle.ncq_engine.proofs.Worlds.{named, source_named_is}

last_named : (store : StoreState) (name : List ℕ) → last_in store name ≡ last_of (named name store.sources)
last_named store name = ap last_of (source_named_is store name)

last_without_room : (name : List ℕ) (all : List Declared) → last_of (named name (map without_room all)) ≡ last_of (named name all)
last_without_room name [] = refl
last_without_room name (d ∷ all) = elim (bytes_eq name d.name) as (λ t. last_of (if t then Some (without_room d) else named name (map without_room all)) ≡ last_of (if t then Some d else named name all)) [
  | true ↦ refl
  | false ↦ last_without_room name all
]

last_pushed : (name new root : List ℕ) (key : Key) (all : List Declared) → last_of (named name (all ++ declared new root key ∷ [])) ≡ last_of (named name all)
last_pushed name new root key [] = elim (bytes_eq name new) as (λ t. last_of (if t then Some (declared new root key) else None) ≡ 0) [ true ↦ refl | false ↦ refl ]
last_pushed name new root key (d ∷ all) = elim (bytes_eq name d.name) as (λ t. last_of (if t then Some d else named name (all ++ declared new root key ∷ [])) ≡ last_of (if t then Some d else named name all)) [
  | true ↦ refl
  | false ↦ last_pushed name new root key all
]

-- sources that differ in room alone have the same last changes
pub last_alike : (old new : StoreState) (name : List ℕ) → map without_room new.sources ≡ map without_room old.sources → last_in new name ≡ last_in old name
last_alike old new name e =
    last_named new name ∙ sym (last_without_room name new.sources) ∙ ap (λ all. last_of (named name all)) e
    ∙ last_without_room name old.sources ∙ sym (last_named old name)

-- a new source has not changed
pub last_declared : (old new : StoreState) (name called root : List ℕ) (key : Key) → map without_room new.sources ≡ map without_room old.sources ++ declared called root key ∷ [] → last_in new name ≡ last_in old name
last_declared old new name called root key e =
    last_named new name ∙ sym (last_without_room name new.sources) ∙ ap (λ all. last_of (named name all)) e
    ∙ last_pushed name called root key (map without_room old.sources)
    ∙ last_without_room name old.sources ∙ sym (last_named old name)
