-- The insides found on the lines of an element are those of its children that are wanted.
use Rattle.std.proofs.Common.{◌≡◌, ℕ, ◌+◌, ◌-◌, ◌==◌, ◌&&◌, Bool, true, false, eqb-true, if◌then◌else◌, sym, append-nil, List, [], ◌∷◌, ◌++◌, map, refl, ap, ◌∙◌, append_assoc, arith, inl, inr}
use Rattle.std.proofs.lemmas.Bool.{cases_Bool}
use Rattle.std.proofs.lemmas.Bool.Decides.{nat_tests}
use Rattle.std.specs.Prelude.{nat_eq}
use Rattle.std.specs.Str.{bytes_eq}
use lib.Pointwise.{pointwise, bytes_decides}
use Rattle.ncq_tree.specs.declared.model.Attribute.{Attribute}
use Rattle.ncq_tree.specs.declared.model.Node.{Node}
use Rattle.ncq_tree.specs.declared.model.Node.TheVariants.{Element as element_node, Text as text_node}
use Rattle.ncq_tree.specs.declared.model.Element.{Element}
use Rattle.ncq_tree.proofs.Inductions.{nodes_induction}
use Rattle.ncq_pyx.specs.Canonical.{node_lines, attribute_line, canonical}
use Rattle.ncq_pyx.proofs.LineLaws.{lines_text, lines_element}
use Rattle.ncq_flat.specs.Insides.{insides, inside_of, if_wanted, opens}
use Rattle.ncq_flat.specs.Behind.{behind, has_mark}

module _ (wanted : List ℕ → Bool) where
  -- below a child nothing is found
  abbrev IsDeep : Node → Type 0
  IsDeep node = (depth : ℕ) (more : List (List ℕ)) → insides wanted (depth + 1) (node_lines node ++ more) ≡ insides wanted (depth + 1) more

  text_passed : (depth : ℕ) (text : List ℕ) (more : List (List ℕ)) → insides wanted depth (node_lines (text_node text) ++ more) ≡ insides wanted depth more
  text_passed depth text more = ap (λ (l : List (List ℕ)). insides wanted depth (l ++ more)) (lines_text text)

  pub attributes_passed : (attributes : List Attribute) (depth : ℕ) (more : List (List ℕ)) → insides wanted depth (map attribute_line attributes ++ more) ≡ insides wanted depth more
  attributes_passed [] depth more = refl
  attributes_passed (a ∷ attributes) depth more = attributes_passed attributes depth more

  all_deep : (below : List ((n : Node) × IsDeep n)) (depth : ℕ) (more : List (List ℕ)) → insides wanted (depth + 1) (canonical (map (λ e. e.0) below) ++ more) ≡ insides wanted (depth + 1) more
  all_deep [] depth more = refl
  all_deep (node ∷ below) depth more =
      let nodes = map (λ (e : (n : Node) × IsDeep n). e.0) below in
      ap (insides wanted (depth + 1)) (append_assoc (node_lines node.0) (canonical nodes) more)
      ∙ node.1 depth (canonical nodes ++ more) ∙ all_deep below depth more

  closed : (depth : ℕ) (name : List ℕ) (more : List (List ℕ)) → insides wanted (depth + 1) ((41 ∷ name) ∷ more) ≡ insides wanted depth more
  closed depth name more = grind arith

  opened : (depth : ℕ) (name : List ℕ) (more : List (List ℕ)) → insides wanted (depth + 1) ((40 ∷ name) ∷ more) ≡ insides wanted (depth + 1 + 1) more
  opened depth name more = grind arith

  element_deep : (name : List ℕ) (attributes : List Attribute) (below : List ((n : Node) × IsDeep n)) → IsDeep (element_node (record { name = name; attributes = attributes; children = map (λ e. e.0) below }))
  element_deep name attributes below depth more =
      let nodes = map (λ (x : (n : Node) × IsDeep n). x.0) below in
      let e : Element = record { name = name; attributes = attributes; children = nodes } in
      ap (λ (l : List (List ℕ)). insides wanted (depth + 1) (l ++ more)) (lines_element e)
      ∙ opened depth name ((map attribute_line attributes ++ (canonical nodes ++ (41 ∷ name) ∷ [])) ++ more)
      ∙ ap (insides wanted (depth + 1 + 1)) (append_assoc (map attribute_line attributes) (canonical nodes ++ (41 ∷ name) ∷ []) more)
      ∙ attributes_passed attributes (depth + 1 + 1) ((canonical nodes ++ (41 ∷ name) ∷ []) ++ more)
      ∙ ap (insides wanted (depth + 1 + 1)) (append_assoc (canonical nodes) ((41 ∷ name) ∷ []) more)
      ∙ all_deep below (depth + 1) ((41 ∷ name) ∷ more)
      ∙ closed (depth + 1) name more

  deep : (node : Node) → IsDeep node
  deep = nodes_induction IsDeep (λ text depth more. text_passed (depth + 1) text more) element_deep

  forest_deep : (forest : List Node) (depth : ℕ) (more : List (List ℕ)) → insides wanted (depth + 1) (canonical forest ++ more) ≡ insides wanted (depth + 1) more
  forest_deep [] depth more = refl
  forest_deep (node ∷ forest) depth more =
      ap (insides wanted (depth + 1)) (append_assoc (node_lines node) (canonical forest) more)
      ∙ deep node depth (canonical forest ++ more) ∙ forest_deep forest depth more

  inside_deep : (e : Element) (more : List (List ℕ)) → insides wanted 1 (inside_of e more) ≡ insides wanted 0 more
  inside_deep e more =
      attributes_passed e.attributes 1 (canonical e.children ++ (41 ∷ e.name) ∷ more)
      ∙ forest_deep e.children 0 ((41 ∷ e.name) ∷ more)
      ∙ closed 0 e.name more

  lines_inside : (e : Element) (more : List (List ℕ)) → node_lines (element_node e) ++ more ≡ (40 ∷ e.name) ∷ inside_of e more
  lines_inside e more =
      ap (λ (l : List (List ℕ)). l ++ more) (lines_element e)
      ∙ ap (λ (l : List (List ℕ)). (40 ∷ e.name) ∷ l) (append_assoc (map attribute_line e.attributes) (canonical e.children ++ (41 ∷ e.name) ∷ []) more
      ∙ ap (λ (l : List (List ℕ)). map attribute_line e.attributes ++ l) (append_assoc (canonical e.children) ((41 ∷ e.name) ∷ []) more))

  pub element_inside : (e : Element) (more : List (List ℕ)) → insides wanted 0 (node_lines (element_node e) ++ more) ≡ if_wanted wanted e more ++ insides wanted 0 more
  element_inside e more =
      ap (insides wanted 0) (lines_inside e more)
      ∙ elim (cases_Bool (wanted (40 ∷ e.name))) [
        | inl w ↦ rw w (ap (λ (l : List (List (List ℕ))). inside_of e more ∷ l) (inside_deep e more))
        | inr w ↦ rw w (inside_deep e more)
      ]

  pub text_inside : (text : List ℕ) (more : List (List ℕ)) → insides wanted 0 (node_lines (text_node text) ++ more) ≡ insides wanted 0 more
  text_inside text more = text_passed 0 text more

pub own_lines : (e : Element) → node_lines (element_node e) ≡ (40 ∷ e.name) ∷ inside_of e []
own_lines e = sym (append-nil (node_lines (element_node e))) ∙ lines_inside (λ line. true) e []

opened_deep : (wanted : List ℕ → Bool) (depth : ℕ) (line : List ℕ) (lines : List (List ℕ)) → (if (depth + 1 == 0) && wanted line then lines ∷ insides wanted (depth + 1 + 1) lines else insides wanted (depth + 1 + 1) lines) ≡ insides wanted (depth + 1 + 1) lines
opened_deep wanted depth line lines = grind arith

closing : (wanted : List ℕ → Bool) (depth : ℕ) (lines : List (List ℕ)) → insides wanted (depth - 1 + 1) lines ≡ insides wanted 0 (behind (depth - 1) lines)
    → (if depth + 1 == 0 then [] else insides wanted (depth + 1 - 1) lines) ≡ insides wanted 0 (if depth == 0 then lines else behind (depth - 1) lines)
closing wanted depth lines h =
    elim (cases_Bool (depth == 0)) [
      | inl w ↦ rw w (let z : depth ≡ 0 = eqb-true depth 0 w in ap (λ (d : ℕ). if d + 1 == 0 then [] else insides wanted (d + 1 - 1) lines) z)
      | inr w ↦ rw w (
          let some : (depth + 1 == 0) ≡ false = grind arith in
          let same : depth + 1 - 1 ≡ depth - 1 + 1 = above depth w in
          ap (λ (b : Bool). if b then [] else insides wanted (depth + 1 - 1) lines) some ∙ ap (λ (d : ℕ). insides wanted d lines) same ∙ h)
    ]
  where
    above : (depth : ℕ) → (depth == 0) ≡ false → depth + 1 - 1 ≡ depth - 1 + 1
    above depth w = grind (arith, w, nat_tests)

-- what is found behind a child is found behind the line that closes it
pub found_behind : (wanted : List ℕ → Bool) (depth : ℕ) (lines : List (List ℕ)) → insides wanted (depth + 1) lines ≡ insides wanted 0 (behind depth lines)
found_behind wanted depth [] = refl
found_behind wanted depth (line ∷ lines) =
    elim (cases_Bool (has_mark 40 line)) [
      | inl w ↦ rw w (opened_deep wanted depth line lines ∙ found_behind wanted (depth + 1) lines)
      | inr w ↦
          elim (cases_Bool (has_mark 41 line)) [
            | inl v ↦ rw (w, v) (closing wanted depth lines (found_behind wanted (depth - 1) lines))
            | inr v ↦ rw (w, v) (found_behind wanted depth lines)
          ]
    ]

same_tests : (name other : List ℕ) (s t : Bool) → s ≡ pointwise nat_eq other name → t ≡ bytes_eq name other → s ≡ t
same_tests name other true true a b = refl
same_tests name other false false a b = refl
same_tests name other true false a b =
    let is : other ≡ name = (bytes_decides other name).0 (sym a) in
    let e : bytes_eq name other ≡ true = (bytes_decides name other).1 (sym is) in
    cc
same_tests name other false true a b =
    let is : name ≡ other = (bytes_decides name other).0 (sym b) in
    let e : pointwise nat_eq other name ≡ true = (bytes_decides other name).1 (sym is) in
    cc

-- the opening line of an element is that of the tag exactly where the tag is its name
pub opens_named : (name other : List ℕ) → opens name (40 ∷ other) ≡ bytes_eq name other
opens_named name other = same_tests name other (opens name (40 ∷ other)) (bytes_eq name other) refl refl

-- behind the first child that is wanted, the others are found behind the line that closes it
pub next_inside : (wanted : List ℕ → Bool) (lines inside : List (List ℕ)) → insides wanted 0 lines ≡ inside ∷ insides wanted 1 inside → insides wanted 0 lines ≡ inside ∷ insides wanted 0 (behind 0 inside)
next_inside wanted lines inside first = first ∙ ap (λ (l : List (List (List ℕ))). inside ∷ l) (found_behind wanted 0 inside)
