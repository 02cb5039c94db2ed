-- The elements of a source.
use Rattle.std.specs.Prelude.{ℕ, List, [], ◌∷◌, Option, Some, None, refl}
use Rattle.std.specs.Coded.{Coded, code_by, coded×, coded_ℕ, coded_list}
use Rattle.std.specs.FinMap.{insert, remove, code}
use Rattle.indexmap.specs.IndexMap.{IndexMap}
use Rattle.ncq_base.specs.Keys.{ByBytes}
use Rattle.ncq_tree.specs.declared.model.Element.{Element}
use Rattle.ncq_tree.specs.contracts.model.Element.{the_row as element_row}
pub use Rattle.ncq_base.specs.Keys.{map_of}

-- keys with their elements, in an order of the source's own, and how many more need no memory
pub record Held : Type 0 where
  pub pairs : List (List ℕ × Element)
  pub room : ℕ

-- how they are written as a value
abbrev pub held_code : Coded Held
held_code = code_by (List (List ℕ × Element) × ℕ)
    (coded× (coded_list (coded× (coded_list coded_ℕ) element_row.coded)) coded_ℕ)
    (λ h. (h.pairs, h.room)) (λ p. record { pairs = p.0; room = p.1 }) (λ _. refl)

-- elements by their keys
abbrev pub Kept : Type 0
Kept = ByBytes Element

-- with an element at the key, or without one
abbrev pub with_at : Kept → List ℕ → Option Element → Kept
with_at kept key (Some element) = insert kept key element
with_at kept key None = remove kept key

-- how elements by their keys are written as a value
abbrev pub kept_code : Coded Kept
kept_code = code (coded_list coded_ℕ) element_row.coded

-- what keys hold by a map, and nothing where there is none
abbrev pub changes_of : {S : Type 0}
    → Option (IndexMap (List ℕ) (Option Element) S) → List (List ℕ × Option Element)
changes_of None = []
changes_of (Some changes) = changes.entries

-- the elements, with what each pair says of its key; of two pairs with one key the first
abbrev pub over : Kept → List (List ℕ × Option Element) → Kept
over kept [] = kept
over kept (change ∷ changes) = with_at (over kept changes) change.0 change.1
