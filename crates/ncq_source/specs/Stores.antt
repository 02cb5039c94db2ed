-- Declared sources, as callers see them.
use Rattle.std.specs.Prelude.{◌≡◌, ℕ, List, [], refl}
use Rattle.std.specs.Coded.{Coded, code_by, coded×, coded_ℕ, coded_list}
use Rattle.std.specs.FinMap.{empty}
use Rattle.std.specs.List.{IsDistinct}
use Rattle.std.specs.Map.{keys_of}
use Rattle.std.specs.Str.{bytes_eq}
use Rattle.ncq_tree.specs.declared.model.Element.{Element}
use Rattle.ncq_tree.specs.contracts.model.Element.{the_row as element_row}
use Rattle.ncq_source.specs.declared.change.Entry.{Entry}
use Rattle.ncq_source.specs.declared.key.Key.{Key}
use Rattle.ncq_source.specs.contracts.key.Key.{the_row as key_row}
use Rattle.ncq_source.specs.Changes.{after}
use Rattle.ncq_source.specs.Held.{map_of, Kept, kept_code}

-- a source: its name, the tag of its root, the rule of its keys, its elements by their keys, and
-- the number of its last change; the order in which the elements are shown, and how many more of
-- them need no memory
pub record Source : Type 0 where
  pub name : List ℕ
  pub root : List ℕ
  pub key : Key
  pub elements : Kept
  pub last : ℕ
  pub shown : List (List ℕ × Element)
  pub room : ℕ

-- how a source is written as a value
abbrev pub Parts : Type 0
Parts = List ℕ × (List ℕ × (Key × (Kept × (ℕ × (List (List ℕ × Element) × ℕ)))))

abbrev pub source_code : Coded Source
source_code = code_by Parts
    (coded× (coded_list coded_ℕ) (coded× (coded_list coded_ℕ)
    (coded× key_row.coded (coded× kept_code
    (coded× coded_ℕ (coded× (coded_list (coded× (coded_list coded_ℕ) element_row.coded))
    coded_ℕ))))))
    (λ s. (s.name, (s.root, (s.key, (s.elements, (s.last, (s.shown, s.room)))))))
    (λ p. record {
      name = p.0;
      root = p.1.0;
      key = p.1.1.0;
      elements = p.1.1.1.0;
      last = p.1.1.1.1.0;
      shown = p.1.1.1.1.1.0;
      room = p.1.1.1.1.1.1;
    })
    (λ _. refl)

-- the elements that are shown are those of the map, and each key's is shown once
pub record ShowsEach (source : Source) : Type 0 where
  pub once : IsDistinct bytes_eq (keys_of source.shown)
  pub elements : source.elements ≡ map_of source.shown

-- a source that was declared and not changed yet
abbrev pub declared : List ℕ → List ℕ → Key → Source
declared name root key = record {
  name = name;
  root = root;
  key = key;
  elements = empty;
  last = 0;
  shown = [];
  room = 0;
}

-- a source, but for its room
abbrev pub without_room : Source → Source
without_room source = record source { room = 0 }

-- a source after a change with this number: the elements after the entries, and all else as it was
pub record Follows (old new : Source) (entries : List Entry) (number : ℕ) : Type 0 where
  pub name : new.name ≡ old.name
  pub root : new.root ≡ old.root
  pub key : new.key ≡ old.key
  pub elements : new.elements ≡ after old.elements entries
  pub last : new.last ≡ number
