-- The key values of the children of a name, found on the lines of an element.
use Rattle.std.proofs.Common.{◌≡◌, ℕ, Bool, true, false, List, [], ◌∷◌, ◌++◌, map, if◌then◌else◌, refl, ap, sym, ◌∙◌, append_assoc, append-nil}
use Rattle.std.specs.List.{flat_map}
use Rattle.std.specs.Str.{bytes_eq}
use Rattle.std.specs.Prelude.{Option, None}
use Rattle.std.proofs.lemmas.List.{map-append}
use Rattle.ncq_tree.specs.declared.model.Attribute.{Attribute}
use Rattle.ncq_tree.specs.declared.model.Node.{Node}
use Rattle.ncq_tree.specs.declared.model.Node.TheVariants.{Element as element_node, Text as text_node}
use Rattle.ncq_tree.specs.declared.model.Element.{Element}
use Rattle.ncq_tree.specs.Texts.{string_value}
use Rattle.ncq_tree.proofs.Inductions.{nodes_induction}
use Rattle.ncq_pyx.specs.Canonical.{node_lines, canonical}
use Rattle.ncq_flat.specs.Insides.{insides, inside_of, if_wanted, opens}
use Rattle.ncq_flat.specs.Behind.{behind}
use Rattle.ncq_flat.specs.Said.{string_value_in}
use Rattle.ncq_flat.proofs.InsideLaws.{element_inside, text_inside, attributes_passed, next_inside, opens_named}
use Rattle.ncq_flat.proofs.SaidLaws.{inside_value}
use Rattle.ncq_source.specs.Keys.{Strings, child_keys, only, key_of, not_empty}
use Rattle.ncq_source.specs.declared.key.Key.TheVariants.{Child}
use Rattle.ncq_source.proofs.KeyLaws.{child_keys_text, child_keys_element}

abbrev values : List (List (List ℕ)) → Strings
values found = map string_value_in found

module _ (name : List ℕ) where
  -- the key values that are found on the lines of a node are its own
  abbrev IsFound : Node → Type 0
  IsFound node = (more : List (List ℕ)) → values (insides (opens name) 0 (node_lines node ++ more)) ≡ child_keys name node ++ values (insides (opens name) 0 more)

  text_found : (text : List ℕ) → IsFound (text_node text)
  text_found text more =
      ap values (text_inside (opens name) text more)
      ∙ sym (ap (λ (k : Strings). k ++ values (insides (opens name) 0 more)) (child_keys_text name text))

  one_found : (e : Element) (more : List (List ℕ)) (s t : Bool) → s ≡ t → values (if s then inside_of e more ∷ [] else []) ≡ (if t then string_value e.children ∷ [] else [])
  one_found e more true true h = ap (λ (v : List ℕ). v ∷ []) (inside_value e more)
  one_found e more false false h = refl
  one_found e more true false h = cc
  one_found e more false true h = cc

  element_found : (e : Element) → IsFound (element_node e)
  element_found e more =
      ap values (element_inside (opens name) e more)
      ∙ map-append string_value_in (if_wanted (opens name) e more) (insides (opens name) 0 more)
      ∙ ap (λ (k : Strings). k ++ values (insides (opens name) 0 more))
      (one_found e more (opens name (40 ∷ e.name)) (bytes_eq name e.name) (opens_named name e.name) ∙ sym (child_keys_element name e))

  found : (node : Node) → IsFound node
  found = nodes_induction IsFound text_found (λ (n : List ℕ) (attributes : List Attribute) (below : List ((x : Node) × IsFound x)). element_found (record { name = n; attributes = attributes; children = map (λ (x : (n : Node) × IsFound n). x.0) below }))

  forest_found : (forest : List Node) (more : List (List ℕ)) → values (insides (opens name) 0 (canonical forest ++ more)) ≡ flat_map (child_keys name) forest ++ values (insides (opens name) 0 more)
  forest_found [] more = refl
  forest_found (node ∷ forest) more =
      ap (λ (l : List (List ℕ)). values (insides (opens name) 0 l)) (append_assoc (node_lines node) (canonical forest) more)
      ∙ found node (canonical forest ++ more)
      ∙ ap (λ (k : Strings). child_keys name node ++ k) (forest_found forest more)
      ∙ sym (append_assoc (child_keys name node) (flat_map (child_keys name) forest) (values (insides (opens name) 0 more)))

  keys_found : (e : Element) (more : List (List ℕ)) → values (insides (opens name) 0 (inside_of e more)) ≡ flat_map (child_keys name) e.children
  keys_found e more =
      ap values (attributes_passed (opens name) e.attributes 0 (canonical e.children ++ (41 ∷ e.name) ∷ more))
      ∙ forest_found e.children ((41 ∷ e.name) ∷ more) ∙ append-nil (flat_map (child_keys name) e.children)

  -- the one value on the lines from inside an element on is its key
  pub key_found : (e : Element) (lines : List (List ℕ)) (key : Option (List ℕ)) → lines ≡ inside_of e [] → key ≡ only (values (insides (opens name) 0 lines)) → key ≡ key_of (Child name) e
  key_found e lines key is k = k ∙ ap (λ (l : List (List ℕ)). only (values (insides (opens name) 0 l))) is ∙ ap only (keys_found e [])

  -- one child alone
  pub one_key : (lines inside : List (List ℕ)) → insides (opens name) 0 lines ≡ inside ∷ insides (opens name) 1 inside → insides (opens name) 0 (behind 0 inside) ≡ [] → not_empty (string_value_in inside) ≡ only (values (insides (opens name) 0 lines))
  one_key lines inside first none = ap (λ l. only (values (inside ∷ l))) (sym none) ∙ ap (λ l. only (values l)) (sym (next_inside (opens name) lines inside first))

  -- a child, and another behind it
  pub two_keys : (lines inside second : List (List ℕ)) (more : List (List (List ℕ))) → insides (opens name) 0 lines ≡ inside ∷ insides (opens name) 1 inside → insides (opens name) 0 (behind 0 inside) ≡ second ∷ more → None ≡ only (values (insides (opens name) 0 lines))
  two_keys lines inside second more first some = ap (λ l. only (values (inside ∷ l))) (sym some) ∙ ap (λ l. only (values l)) (sym (next_inside (opens name) lines inside first))
