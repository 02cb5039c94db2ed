-- A store, as callers see it.
use Rattle.std.specs.Prelude.{◌≡◌, ℕ, ◌+◌, ◌<◌, ◌≤◌, List, [], ◌∷◌, ◌++◌, map, length, slice_get}
use Rattle.std.specs.Prelude.{Bool, true, false, Option, Some, None, refl, position, Ok, Err}
use Rattle.std.specs.List.{AllByRecursion}
use Rattle.std.specs.Option.{is_some, option_and_then, option_map}
use Rattle.std.specs.Coded.{Coded, code_by, coded×, coded_ℕ, coded_list}
use Rattle.std.specs.declared.result.Result.{Result}
use Rattle.std.specs.Str.{bytes_eq}
use Rattle.ncq_source.specs.declared.change.ChangeError.{ChangeError}
use Rattle.ncq_source.specs.declared.change.ChangeError.TheVariants.{BadKey, NoSuchKey, NoSource}
use Rattle.ncq_source.specs.declared.change.ChangeError.TheVariants.{OutOfMemory}
use Rattle.ncq_source.specs.declared.change.Entry.{Entry}
use Rattle.ncq_source.specs.declared.change.SourceId.{SourceId}
use Rattle.ncq_source.specs.declared.key.Key.{Key}
use Rattle.ncq_source.specs.Changes.{Trial, prepared}
use Rattle.ncq_source.specs.Changes.Trial.{Good, NoKey, NotThere}
use Rattle.ncq_source.specs.ChangeStates.{AreRising, entries_at}
use Rattle.ncq_source.specs.Sections.{Holding, Holdings, is_named, items_for}
use Rattle.ncq_source.specs.declared.change.Portion.{Portion}
use Rattle.ncq_source.specs.declared.change.Section.{Section}
use Rattle.ncq_source.specs.Stores.{Source, source_code, Follows, declared, without_room}

-- the declared sources in the order of declaration, and how many changes were committed
pub record StoreState : Type 0 where
  pub sources : List Source
  pub changes : ℕ

-- how a store is written as a value
abbrev pub store_code : Coded StoreState
store_code = code_by (List Source × ℕ) (coded× (coded_list source_code) coded_ℕ)
    (λ s. (s.sources, s.changes)) (λ p. record { sources = p.0; changes = p.1 }) (λ _. refl)

-- the names of the sources, in order
abbrev pub names : StoreState → List (List ℕ)
names store = map (λ s. s.name) store.sources

-- the first source of this name
abbrev pub found : StoreState → List ℕ → Option ℕ
found store name = position (bytes_eq name) (names store)

-- the store has a source at this place
abbrev pub IsDeclared : StoreState → SourceId → Type 0
IsDeclared store id = id.0 < length store.sources

-- this holds of the source at this place
abbrev pub At : StoreState → SourceId → (Source → Type 0) → Type 0
At store id Holds = (source : Source) → slice_get store.sources id.0 ≡ Some source → Holds source

-- a source came behind the others, which are as they were but for their room
pub record Declares (old new : StoreState) (name root : List ℕ) (key : Key) : Type 0 where
  pub changes : new.changes ≡ old.changes
  pub sources : map without_room new.sources ≡ map without_room old.sources
      ++ declared name root key ∷ []

-- nothing changed but the room of sources
pub record IsAlike (old new : StoreState) : Type 0 where
  pub changes : new.changes ≡ old.changes
  pub sources : map without_room new.sources ≡ map without_room old.sources

-- the sources of the change are declared
abbrev pub AreDeclared : StoreState → List Portion → Type 0
AreDeclared store portions = AllByRecursion (λ portion. IsDeclared store portion.source) portions

-- the source of a portion has room for each of its entries
abbrev pub HasRoomIn : List Source → Portion → Type 0
HasRoomIn sources portion = (source : Source) → slice_get sources portion.source.0 ≡ Some source
    → length portion.entries ≤ source.room

-- each source of the change has room for each of its entries
abbrev pub HasRoom : StoreState → List Portion → Type 0
HasRoom store portions = AllByRecursion (HasRoomIn store.sources) portions

-- a source that a change names follows its entries, and any other is as it was
abbrev pub FollowsPortion : Source → Source → Option (List Entry) → ℕ → Type 0
FollowsPortion old new None number = new ≡ old
FollowsPortion old new (Some entries) number = Follows old new entries number

-- each source that the change names follows its entries, and the others are as they were
pub record AreCommitted (old : List Source) (portions : List Portion) (number : ℕ)
    (new : List Source) : Type 0 where
  pub count : length new ≡ length old
  pub each : (at : ℕ) (s : Source) → slice_get old at ≡ Some s
      → (t : Source) × (slice_get new at ≡ Some t)
      × FollowsPortion s t (entries_at at portions) number

-- a change was committed: it is counted, and has its number in each source that it names
pub record IsCommitted (old : StoreState) (change : List Portion) (new : StoreState) : Type 0 where
  pub changes : new.changes ≡ old.changes + 1
  pub sources : AreCommitted old.sources change new.changes new.sources

-- the source of this name
abbrev pub source_named : StoreState → List ℕ → Option Source
source_named store name = option_and_then (slice_get store.sources) (found store name)

-- a declared source, as sections are tried on it
abbrev pub holding_of : Source → Holding
holding_of source = record { rule = source.key; elements = source.elements }

-- for each name the declared source of this name, if there is one
abbrev pub holdings_of : StoreState → Holdings
holdings_of store name = option_map holding_of (source_named store name)

-- what a change does to a source that sections name: the entries of its items, in their order
pub record IsPortion (store : StoreState) (sections : List Section) (portion : Portion)
    : Type 0 where
  pub source : Source
  pub here : slice_get store.sources portion.source.0 ≡ Some source
  pub found : found store source.name ≡ Some portion.source.0
  pub named : is_named source.name sections ≡ true
  pub entries : prepared source.key 1 source.elements (items_for source.name sections)
      ≡ Good portion.entries

-- a portion for each source that sections name
pub record ArePortionsOf (store : StoreState) (sections : List Section) (portions : List Portion)
    : Type 0 where
  pub rising : AreRising portions
  pub each : AllByRecursion (IsPortion store sections) portions
  pub all : (name : List ℕ) (at : ℕ) → is_named name sections ≡ true → found store name ≡ Some at
      → is_some (entries_at at portions) ≡ true

-- what an answer tells of sections: a source is not declared, or the first item that cannot be
-- applied, or that all can
abbrev pub TellsBatch : {A : Type 0} → Result A ChangeError → Bool → Trial (Unit {0}) → Type 0
TellsBatch (Ok value) known trial = (known ≡ true) × (trial ≡ Good tt)
TellsBatch (Err NoSource) known trial = known ≡ false
TellsBatch (Err (BadKey position)) known trial = (known ≡ true) × (trial ≡ NoKey position)
TellsBatch (Err (NoSuchKey position)) known trial = (known ≡ true) × (trial ≡ NotThere position)
TellsBatch (Err OutOfMemory) known trial = Unit {0}
