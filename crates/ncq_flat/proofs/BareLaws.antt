-- What the first lines from inside an element tell of it: that it has no attributes, and no children or one text.
use Rattle.std.proofs.Common.{◌≡◌, ℕ, Bool, true, false, List, [], ◌∷◌, ◌++◌, map, refl, ap, sym, ◌∙◌, append_assoc, true≢false}
use Rattle.ncq_base.specs.Escapes.{escaped, unescaped}
use Rattle.ncq_tree.specs.declared.model.Attribute.{Attribute}
use Rattle.ncq_tree.specs.declared.model.Node.{Node}
use Rattle.ncq_tree.specs.declared.model.Node.TheVariants.{Element as element_node, Text as text_node}
use Rattle.ncq_tree.specs.declared.model.Element.{Element}
use Rattle.ncq_tree.proofs.Inductions.{nodes_induction}
use Rattle.ncq_pyx.specs.Canonical.{node_lines, attribute_line, canonical}
use Rattle.ncq_pyx.proofs.LineLaws.{lines_text, lines_element}
use Rattle.ncq_pyx.proofs.CanonicalLaws.{unescape_escaped}
use Rattle.ncq_flat.specs.Behind.{has_mark}
use Rattle.ncq_flat.specs.Insides.{inside_of}

-- the first of the lines begins with this byte
abbrev pub begins : ℕ → List (List ℕ) → Bool
begins mark [] = false
begins mark (line ∷ lines) = has_mark mark line

-- no node begins as an element ends
abbrev IsOpening : Node → Type 0
IsOpening node = (more : List (List ℕ)) → begins 41 (node_lines node ++ more) ≡ false

opening : (node : Node) → IsOpening node
opening = nodes_induction IsOpening
    (λ text more. ap (λ (l : List (List ℕ)). begins 41 (l ++ more)) (lines_text text))
    (λ name attributes below more.
    let e : Element = record { name = name; attributes = attributes; children = map (λ b. b.0) below } in
    ap (λ (l : List (List ℕ)). begins 41 (l ++ more)) (lines_element e))

-- where a closing line stands first behind nodes, there are none
none_behind : (forest : List Node) (more : List (List ℕ)) → begins 41 (canonical forest ++ more) ≡ true → forest ≡ []
none_behind [] more h = refl
none_behind (node ∷ forest) more h =
    absurd (true≢false (sym h ∙ ap (begins 41) (append_assoc (node_lines node) (canonical forest) more) ∙ opening node (canonical forest ++ more)))

pub closed_is_bare : (e : Element) (more : List (List ℕ)) → begins 41 (inside_of e more) ≡ true → (e.attributes ≡ []) × (e.children ≡ [])
closed_is_bare e more h = by_attributes e.attributes refl
  where
    by_attributes : (attributes : List Attribute) → e.attributes ≡ attributes → (e.attributes ≡ []) × (e.children ≡ [])
    by_attributes [] is =
        (is, none_behind e.children ((41 ∷ e.name) ∷ more) (sym (ap (λ (those : List Attribute). begins 41 (map attribute_line those ++ (canonical e.children ++ (41 ∷ e.name) ∷ more))) is) ∙ h))
    by_attributes (a ∷ attributes) is =
        absurd (true≢false (sym h ∙ ap (λ (those : List Attribute). begins 41 (map attribute_line those ++ (canonical e.children ++ (41 ∷ e.name) ∷ more))) is))

pub bare_is_closed : (e : Element) (more : List (List ℕ)) → (e.attributes ≡ []) × (e.children ≡ []) → begins 41 (inside_of e more) ≡ true
bare_is_closed e more h = λ i. begins 41 (map attribute_line (h.0 i) ++ (canonical (h.1 i) ++ (41 ∷ e.name) ∷ more))

-- a node whose first line is a text in front of a closing line is that text alone
abbrev IsAlone : Node → Type 0
IsAlone node = (word name : List ℕ) (rest lines : List (List ℕ)) → (45 ∷ word) ∷ (41 ∷ name) ∷ rest ≡ node_lines node ++ lines
    → (node ≡ text_node (unescaped word)) × (begins 41 lines ≡ true)

text_alone : (text : List ℕ) → IsAlone (text_node text)
text_alone text word name rest lines h =
    let both : (45 ∷ word) ∷ (41 ∷ name) ∷ rest ≡ (45 ∷ escaped text) ∷ lines = h ∙ ap (λ (l : List (List ℕ)). l ++ lines) (lines_text text) in
    let same : word ≡ escaped text = cc in
    let left : (41 ∷ name) ∷ rest ≡ lines = cc in
    (ap text_node (sym (ap unescaped same ∙ unescape_escaped text)), sym (ap (begins 41) left))

element_alone : (e : Element) → IsAlone (element_node e)
element_alone e word name rest lines h =
    absurd (true≢false (ap (begins 45) (h ∙ ap (λ (l : List (List ℕ)). l ++ lines) (lines_element e))))

node_alone : (node : Node) → IsAlone node
node_alone = nodes_induction IsAlone text_alone
    (λ name attributes below. element_alone (record { name = name; attributes = attributes; children = map (λ b. b.0) below }))

lone_among : (attributes : List Attribute) (children : List Node) (word name last : List ℕ) (rest more : List (List ℕ))
    → (45 ∷ word) ∷ (41 ∷ name) ∷ rest ≡ map attribute_line attributes ++ (canonical children ++ (41 ∷ last) ∷ more)
    → children ≡ text_node (unescaped word) ∷ []
lone_among (a ∷ attributes) children word name last rest more h = absurd (true≢false (ap (begins 45) h))
lone_among [] [] word name last rest more h = absurd (true≢false (ap (begins 45) h))
lone_among [] (node ∷ forest) word name last rest more h =
    let alone = node_alone node word name rest (canonical forest ++ (41 ∷ last) ∷ more) (h ∙ append_assoc (node_lines node) (canonical forest) ((41 ∷ last) ∷ more)) in
    λ i. alone.0 i ∷ none_behind forest ((41 ∷ last) ∷ more) alone.1 i

pub lone_child : (e : Element) (more : List (List ℕ)) (word name : List ℕ) (rest : List (List ℕ))
    → (45 ∷ word) ∷ (41 ∷ name) ∷ rest ≡ inside_of e more → e.children ≡ text_node (unescaped word) ∷ []
lone_child e more word name rest h = lone_among e.attributes e.children word name e.name rest more h
