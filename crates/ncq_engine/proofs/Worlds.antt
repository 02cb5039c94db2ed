-- The sources of a history and those of a store: their worlds, their roots, and the world at a mark.
use Rattle.std.proofs.Common.{◌≡◌, ℕ, suc, ◌+◌, ◌≤◌, true, false, cond, not, List, [], ◌∷◌, ◌++◌, map, length, slice_get, refl, sym, ◌∙◌, ap, arith, true≢false}
use Rattle.std.specs.Prelude.{Option, Some, None, nat_le, nat_lt, if◌then◌else◌}
use Rattle.std.specs.Option.{option_map, option_and_then}
use Rattle.std.specs.List.{position_or_len}
use Rattle.std.specs.FinMap.{empty, entries, len-entries, len-empty}
use Rattle.std.proofs.lemmas.List.{nil_from_length}
use Rattle.std.specs.Ordering.{nat_cmp}
use Rattle.std.specs.Cmp.Lexicographic.{slice_cmp}
use Rattle.std.proofs.lemmas.Bool.Decides.{nat_tests}
use Rattle.std.specs.Str.{bytes_eq}
use Rattle.ncq_tree.specs.declared.model.Element.{Element}
use Rattle.ncq_source.specs.declared.key.Key.{Key}
use Rattle.ncq_source.specs.Stores.{Source as Declared}
use Rattle.ncq_source.specs.StoreStates.{StoreState, source_named}
use Rattle.ncq_bind.specs.Bindings.{roots_in}
use Rattle.ncq_change.specs.Stores.{world_in, elements_of as kept_of}
use Rattle.ncq_script.specs.declared.command.Command.{Command}
use Rattle.ncq_script.specs.declared.command.Command.TheVariants.{Declare, Delta, Batch, Create, Delete, Clock, Report, Malformed}
use Rattle.ncq_engine.specs.History.{History, Source, changes, elements_of, source_in, sources, up_to, world}
use Rattle.ncq_engine.specs.Languages.{roots_of}
use Rattle.ncq_engine.specs.Stands.{content_of}
use Rattle.ncq_engine.proofs.HistoryLaws.{up_to_whole}

-- the first of the sources of this name
abbrev pub named : List ℕ → List Declared → Option Declared
named name [] = None
named name (d ∷ all) = if bytes_eq name d.name then Some d else named name all

abbrev names_of : List Declared → List (List ℕ)
names_of all = map (λ d. d.name) all

at_place : (name : List ℕ) (all : List Declared)
    → option_and_then (slice_get all) (cond (nat_lt (position_or_len (bytes_eq name) (names_of all)) (length (names_of all))) (Some (position_or_len (bytes_eq name) (names_of all))) None) ≡ named name all
at_place name [] = refl
at_place name (d ∷ all) =
    elim (bytes_eq name d.name) as (λ t. option_and_then (slice_get (d ∷ all))
    (cond (nat_lt (cond (not t) (1 + position_or_len (bytes_eq name) (names_of all)) 0) (suc (length (names_of all)))) (Some (cond (not t) (1 + position_or_len (bytes_eq name) (names_of all)) 0)) None)
    ≡ (if t then Some d else named name all)) [
      | true ↦
          let w : nat_lt 0 (suc (length (names_of all))) ≡ true = grind (arith, nat_tests) in
          λ i. option_and_then (slice_get (d ∷ all)) (cond (w i) (Some 0) None)
      | false ↦ behind (position_or_len (bytes_eq name) (names_of all)) (at_place name all)
    ]
  where
    behind : (k : ℕ) → option_and_then (slice_get all) (cond (nat_lt k (length (names_of all))) (Some k) None) ≡ named name all
        → option_and_then (slice_get (d ∷ all)) (cond (nat_lt (1 + k) (suc (length (names_of all)))) (Some (1 + k)) None) ≡ named name all
    behind k e = elim (nat_lt k (length (names_of all))) as (λ t. nat_lt k (length (names_of all)) ≡ t
        → option_and_then (slice_get all) (cond t (Some k) None) ≡ named name all
        → option_and_then (slice_get (d ∷ all)) (cond (nat_lt (1 + k) (suc (length (names_of all)))) (Some (1 + k)) None) ≡ named name all) [
          | true ↦ λ p q.
              let w : nat_lt (1 + k) (suc (length (names_of all))) ≡ true = grind (arith, nat_tests, p) in
              let n : 1 + k ≡ suc k = omega arith in
              (λ i. option_and_then (slice_get (d ∷ all)) (cond (w i) (Some (n i)) None)) ∙ q
          | false ↦ λ p q. let w : nat_lt (1 + k) (suc (length (names_of all))) ≡ false = grind (arith, nat_tests, p) in (λ i. option_and_then (slice_get (d ∷ all)) (cond (w i) (Some (1 + k)) None)) ∙ q
        ] refl e

-- what is found by a name is the first of that name
pub source_named_is : (store : StoreState) (name : List ℕ) → source_named store name ≡ named name store.sources
source_named_is store name = at_place name store.sources

content_named : (name : List ℕ) (all : List Declared) → source_in name (map content_of all) ≡ option_map content_of (named name all)
content_named name [] = refl
content_named name (d ∷ all) =
    elim (bytes_eq name d.name) as (λ t. (if t then Some (content_of d) else source_in name (map content_of all)) ≡ option_map content_of (if t then Some d else named name all)) [
      | true ↦ refl
      | false ↦ content_named name all
    ]

-- what a name names among the sources of a history is what it names in the store
pub source_is : (store : StoreState) (ss : List Source) → map content_of store.sources ≡ ss
    → (name : List ℕ) → source_in name ss ≡ option_map content_of (source_named store name)
source_is store ss e name =
    ap (source_in name) (sym e) ∙ content_named name store.sources ∙ ap (option_map content_of) (sym (at_place name store.sources))

-- no elements stand in the empty map
pub no_entries : map (λ (entry : List ℕ × Element). entry.1) (entries (kept_of None)) ≡ []
no_entries = ap (map (λ (entry : List ℕ × Element). entry.1)) (nil_from_length (entries (kept_of None)) (sym (len-entries (kept_of None)) ∙ len-empty (slice_cmp nat_cmp) Element))

same_elements : (d : Option Declared) → elements_of (option_map content_of d) ≡ map (λ entry. entry.1) (entries (kept_of d))
same_elements None = sym no_entries
same_elements (Some d) = refl

-- the two have one world
pub world_is : (store : StoreState) (ss : List Source) → map content_of store.sources ≡ ss → world ss ≡ world_in store
world_is store ss e = λ i. λ name. (ap elements_of (source_is store ss e name) ∙ same_elements (source_named store name)) i

same_root : (d : Option Declared) → option_map (λ (s : Source). s.root) (option_map content_of d) ≡ option_map (λ (s : Declared). s.root) d
same_root None = refl
same_root (Some d) = refl

-- and the same roots
pub roots_are : (store : StoreState) (ss : List Source) → map content_of store.sources ≡ ss → roots_of ss ≡ roots_in store
roots_are store ss e = λ i. λ name. (ap (option_map (λ (s : Source). s.root)) (source_is store ss e name) ∙ same_root (source_named store name)) i

-- a new source has no elements
pub new_is_empty : (name new root : List ℕ) (key : Key) (ss : List Source)
    → elements_of (source_in name (ss ++ record { name = new; root = root; key = key; elements = empty } ∷ [])) ≡ elements_of (source_in name ss)
new_is_empty name new root key [] =
    elim (bytes_eq name new) as (λ t. elements_of (if t then Some (record { name = new; root = root; key = key; elements = empty }) else None) ≡ []) [ true ↦ no_entries | false ↦ refl ]
new_is_empty name new root key (s ∷ ss) =
    elim (bytes_eq name s.name) as (λ t. elements_of (if t then Some s else source_in name (ss ++ record { name = new; root = root; key = key; elements = empty } ∷ []))
    ≡ elements_of (if t then Some s else source_in name ss)) [ true ↦ refl | false ↦ new_is_empty name new root key ss ]

whole_now : (command : Command) (before : History) → nat_le (changes (command ∷ before)) (changes before) ≡ true → world (sources (command ∷ before)) ≡ world (sources before)
whole_now (Declare name root key) before h = λ i. λ asked. new_is_empty asked name root key (sources before) i
whole_now (Delta changed) before h = absurd (let bad : true ≡ false = grind (arith, nat_tests, h) in true≢false bad)
whole_now (Batch changed) before h = absurd (let bad : true ≡ false = grind (arith, nat_tests, h) in true≢false bad)
whole_now (Create statement) before h = refl
whole_now (Delete name) before h = refl
whole_now (Clock instant) before h = refl
whole_now Report before h = refl
whole_now (Malformed why) before h = refl

-- the world at a mark stays as it is
pub world_at_mark : (number : ℕ) (command : Command) (before : History) → number ≤ changes before
    → world (sources (up_to number (command ∷ before))) ≡ world (sources (up_to number before))
world_at_mark number command before few =
    elim (nat_le (changes (command ∷ before)) number) as (λ t. nat_le (changes (command ∷ before)) number ≡ t
    → world (sources (if t then command ∷ before else up_to number before)) ≡ world (sources (up_to number before))) [
      | true ↦ λ p.
          let n : number ≡ changes before = same_number command before number few p in
          whole_now command before (ap (nat_le (changes (command ∷ before))) (sym n) ∙ p)
          ∙ ap (λ (h : History). world (sources h)) (sym (up_to_whole number before (let w : nat_le (changes before) number ≡ true = grind (arith, nat_tests, n) in w)))
      | false ↦ λ p. refl
    ] refl
  where
    grows : (command : Command) (before : History) → changes before ≤ changes (command ∷ before)
    grows command before = omega arith

    same_number : (command : Command) (before : History) (number : ℕ) → number ≤ changes before → nat_le (changes (command ∷ before)) number ≡ true → number ≡ changes before
    same_number command before number few p = let g = grows command before in grind (arith, nat_tests, p, g)
