-- The lines of a node in front of a text.
use Rattle.std.proofs.Common.{◌≡◌, ℕ, ◌+◌, ◌<◌, ◌≤◌, Bool, true, false, ◌&&◌, List, [], ◌∷◌, ◌++◌, length, map, drop, get_or, refl, ap, sym, ◌∙◌, subst, append_assoc, append-nil, Option, None}
use Rattle.std.specs.List.{list_all}
use Rattle.std.specs.Borrow.{Bor}
use Rattle.ncq_base.specs.Escapes.{escaped}
use Rattle.ncq_base.specs.Names.{is_pyx_name}
use Rattle.ncq_tree.specs.declared.model.Attribute.{Attribute}
use Rattle.ncq_tree.specs.declared.model.Node.{Node}
use Rattle.ncq_tree.specs.declared.model.Node.TheVariants.{Element as element_node, Text as text_node}
use Rattle.ncq_tree.specs.declared.model.Element.{Element}
use Rattle.ncq_tree.specs.Nodes.{by_nodes_text}
use Rattle.ncq_tree.specs.Normal.{node_is_normal}
use Rattle.ncq_pyx.specs.Canonical.{node_lines, attribute_line, bytes_of_lines, canonical, ended, pyx, is_named, has_good_name, text_is_named, element_is_named}
use Rattle.ncq_pyx.proofs.LineLaws.{lines_text, element_bytes, bytes_append}
use Rattle.ncq_pyx.proofs.Proper.{named_element}
use Rattle.ncq_flat.specs.Rests.{Leaves, LeavesNone, IsRest}
use Rattle.ncq_flat.specs.Flat.{element_in}
use Rattle.ncq_flat.proofs.FlatLaws.{element_read}
use Rattle.ncq_flat.proofs.RestLaws.{same_rest, rest_then, none_first, none_then, SameRests, left_all, left_more, left_none}

-- a line: its first byte, a word and the line feed
pub line_rest : (found : Option (Bor (List ℕ))) (mark : ℕ) (word text line end : List ℕ) → Leaves true (mark ∷ []) text line → Leaves true word line end → IsRest found true (10 ∷ []) end → IsRest found true (ended (mark ∷ word)) text
line_rest found mark word text line end one two three =
    rest_then found true true (mark ∷ []) (word ++ 10 ∷ []) text line one
    (rest_then found true true word (10 ∷ []) line end two three)

-- the line of a node that is a text
pub text_rest : (found : Option (Bor (List ℕ))) (node : Node) (said slice text : List ℕ) → node ≡ text_node said → slice ≡ said → IsRest found true (ended (45 ∷ escaped slice)) text → IsRest found (is_named node) (bytes_of_lines (node_lines node)) text
text_rest found node said slice text is same =
    same_rest found text true (is_named node) (ended (45 ∷ escaped slice)) (bytes_of_lines (node_lines node))
    (sym (ap is_named is ∙ by_nodes_text text_is_named element_is_named said))
    (ap (λ v. ended (45 ∷ escaped v)) same ∙ sym (append-nil (ended (45 ∷ escaped said))) ∙ ap bytes_of_lines (sym (lines_text said)) ∙ ap (λ n. bytes_of_lines (node_lines n)) (sym is))

nodes_step : (node : Node) (more : List Node) → (list_all is_named (node ∷ more) ≡ (is_named node && list_all is_named more)) × (pyx (node ∷ more) ≡ bytes_of_lines (node_lines node) ++ pyx more)
nodes_step node more = (refl, bytes_append (node_lines node) (canonical more))

-- a loop over the nodes of a forest
module _ (forest items : List Node) (same : items ≡ forest) (i : ℕ) (whole text : List ℕ)
    (left : SameRests (list_all is_named forest) (pyx forest) whole (list_all is_named (drop i forest)) (pyx (drop i forest)) text) where
  pub nodes_all : length items ≤ i → Leaves (list_all is_named forest) (pyx forest) whole text
  nodes_all end = left_all is_named (λ node. bytes_of_lines (node_lines node)) (list_all is_named) pyx nodes_step (refl, refl) forest i whole text left (subst (λ v. length v ≤ i) same end)

  module _ (node : Node) (is : node ≡ get_or items i node) (here : i < length items) where
    node_is : node ≡ get_or forest i node
    node_is = is ∙ ap (λ v. get_or v i node) same

    stands : i < length forest
    stands = subst (λ v. i < length v) same here

    pub nodes_more : (middle : List ℕ) → Leaves (is_named node) (bytes_of_lines (node_lines node)) text middle → SameRests (list_all is_named forest) (pyx forest) whole (list_all is_named (drop (i + 1) forest)) (pyx (drop (i + 1) forest)) middle
    nodes_more = left_more is_named (λ node. bytes_of_lines (node_lines node)) (list_all is_named) pyx nodes_step (refl, refl) forest i whole text left node node_is stands

    pub nodes_none : LeavesNone (is_named node) (bytes_of_lines (node_lines node)) text → LeavesNone (list_all is_named forest) (pyx forest) whole
    nodes_none = left_none is_named (λ node. bytes_of_lines (node_lines node)) (list_all is_named) pyx nodes_step (refl, refl) forest i whole text left node node_is stands

regroup : (n g c : Bool) → (n && (g && (c && true))) ≡ (n && g && c)
regroup false g c = refl
regroup true false c = refl
regroup true true false = refl
regroup true true true = refl

-- the parts of the lines of an element, one behind the other
module _ (e : Element) (name : List ℕ) (attributes : List Attribute) (named : name ≡ e.name) (given : attributes ≡ e.attributes) (text : List ℕ) where
  abbrev opening : List ℕ
  opening = ended (40 ∷ name)

  abbrev inner : List ℕ
  inner = bytes_of_lines (map attribute_line attributes)

  abbrev closing : List ℕ
  closing = ended (41 ∷ name)

  whole_rest : (found : Option (Bor (List ℕ))) → IsRest found (is_pyx_name name && (list_all has_good_name attributes && (list_all is_named e.children && true))) (opening ++ (inner ++ (pyx e.children ++ closing))) text → IsRest found (is_named (element_node e)) (bytes_of_lines (node_lines (element_node e))) text
  whole_rest found =
      same_rest found text
      (is_pyx_name name && (list_all has_good_name attributes && (list_all is_named e.children && true))) (is_named (element_node e))
      (opening ++ (inner ++ (pyx e.children ++ closing))) (bytes_of_lines (node_lines (element_node e)))
      (ap (λ v. is_pyx_name v && (list_all has_good_name attributes && (list_all is_named e.children && true))) named
      ∙ ap (λ v. is_pyx_name e.name && (list_all has_good_name v && (list_all is_named e.children && true))) given
      ∙ regroup (is_pyx_name e.name) (list_all has_good_name e.attributes) (list_all is_named e.children)
      ∙ sym (named_element e))
      (ap (λ v. ended (40 ∷ v) ++ (inner ++ (pyx e.children ++ ended (41 ∷ v)))) named
      ∙ ap (λ v. ended (40 ∷ e.name) ++ (bytes_of_lines (map attribute_line v) ++ (pyx e.children ++ ended (41 ∷ e.name)))) given
      ∙ sym (element_bytes e))

  pub none_opening : LeavesNone (is_pyx_name name) opening text → LeavesNone (is_named (element_node e)) (bytes_of_lines (node_lines (element_node e))) text
  none_opening none = whole_rest None (none_first (is_pyx_name name) (list_all has_good_name attributes && (list_all is_named e.children && true)) opening (inner ++ (pyx e.children ++ closing)) text none)

  module _ (inside : List ℕ) (one : Leaves (is_pyx_name name) opening text inside) where
    inside_rest : (found : Option (Bor (List ℕ))) → IsRest found (list_all has_good_name attributes && (list_all is_named e.children && true)) (inner ++ (pyx e.children ++ closing)) inside → IsRest found (is_named (element_node e)) (bytes_of_lines (node_lines (element_node e))) text
    inside_rest found rest = whole_rest found (rest_then found (is_pyx_name name) (list_all has_good_name attributes && (list_all is_named e.children && true)) opening (inner ++ (pyx e.children ++ closing)) text inside one rest)

    pub none_attributes : LeavesNone (list_all has_good_name attributes) inner inside → LeavesNone (is_named (element_node e)) (bytes_of_lines (node_lines (element_node e))) text
    none_attributes none = inside_rest None (none_first (list_all has_good_name attributes) (list_all is_named e.children && true) inner (pyx e.children ++ closing) inside none)

    module _ (content : List ℕ) (two : Leaves (list_all has_good_name attributes) inner inside content) where
      content_rest : (found : Option (Bor (List ℕ))) → IsRest found (list_all is_named e.children && true) (pyx e.children ++ closing) content → IsRest found (is_named (element_node e)) (bytes_of_lines (node_lines (element_node e))) text
      content_rest found rest = inside_rest found (rest_then found (list_all has_good_name attributes) (list_all is_named e.children && true) inner (pyx e.children ++ closing) inside content two rest)

      pub none_children : LeavesNone (list_all is_named e.children) (pyx e.children) content → LeavesNone (is_named (element_node e)) (bytes_of_lines (node_lines (element_node e))) text
      none_children none = content_rest None (none_first (list_all is_named e.children) true (pyx e.children) closing content none)

      pub element_rest : (found : Option (Bor (List ℕ))) (end : List ℕ) → Leaves (list_all is_named e.children) (pyx e.children) content end → IsRest found true closing end → IsRest found (is_named (element_node e)) (bytes_of_lines (node_lines (element_node e))) text
      element_rest found end three last = content_rest found (rest_then found (list_all is_named e.children) true (pyx e.children) closing content end three last)

-- the parts of an attribute's line, one behind the other
module _ (a : Attribute) (name : List ℕ) (named : name ≡ a.name) (good : is_pyx_name name ≡ true) (text line space : List ℕ)
    (one : Leaves true (65 ∷ []) text line) (two : Leaves true name line space) where
  space_rest : (value : List ℕ) → value ≡ a.value → (found : Option (Bor (List ℕ))) → IsRest found true (32 ∷ (escaped value ++ 10 ∷ [])) space → IsRest found (has_good_name a) (ended (attribute_line a)) text
  space_rest value valued found rest =
      same_rest found text true (has_good_name a) (65 ∷ (name ++ 32 ∷ (escaped value ++ 10 ∷ []))) (ended (attribute_line a))
      (sym (ap is_pyx_name (sym named) ∙ good))
      (ap (λ v. 65 ∷ (v ++ 32 ∷ (escaped value ++ 10 ∷ []))) named
      ∙ ap (λ v. 65 ∷ (a.name ++ 32 ∷ (escaped v ++ 10 ∷ []))) valued
      ∙ ap (λ v. 65 ∷ v) (sym (append_assoc a.name (32 ∷ escaped a.value) (10 ∷ []))))
      (rest_then found true true (65 ∷ []) (name ++ 32 ∷ (escaped value ++ 10 ∷ [])) text line one
      (rest_then found true true name (32 ∷ (escaped value ++ 10 ∷ [])) line space two rest))

  pub none_space : LeavesNone true (32 ∷ []) space → LeavesNone (has_good_name a) (ended (attribute_line a)) text
  none_space none = space_rest a.value refl None (none_first true true (32 ∷ []) (escaped a.value ++ 10 ∷ []) space none)

  module _ (value back : List ℕ) (valued : value ≡ a.value) (three : Leaves true (32 ∷ []) space back) where
    pub none_value : LeavesNone true (escaped value) back → LeavesNone (has_good_name a) (ended (attribute_line a)) text
    none_value none =
        space_rest value valued None
        (none_then true true (32 ∷ []) (escaped value ++ 10 ∷ []) space back three
        (none_first true true (escaped value) (10 ∷ []) back none))

    pub attribute_rest : (found : Option (Bor (List ℕ))) (end : List ℕ) → Leaves true (escaped value) back end → IsRest found true (10 ∷ []) end → IsRest found (has_good_name a) (ended (attribute_line a)) text
    attribute_rest found end four five =
        space_rest value valued found
        (rest_then found true true (32 ∷ []) (escaped value ++ 10 ∷ []) space back three
        (rest_then found true true (escaped value) (10 ∷ []) back end four five))

-- an element that has the lines of a proper one
pub same_element : (e s : Element) (text : List ℕ) → text ≡ bytes_of_lines (node_lines (element_node s)) → node_is_normal (element_node s) ≡ true → is_named (element_node s) ≡ true
    → Leaves (is_named (element_node e)) (bytes_of_lines (node_lines (element_node e))) text [] → node_is_normal (element_node e) ≡ true → e ≡ s
same_element e s text written normal named leaves right =
    let lines : bytes_of_lines (node_lines (element_node e)) ≡ bytes_of_lines (node_lines (element_node s)) = sym (append-nil (bytes_of_lines (node_lines (element_node e)))) ∙ sym leaves.front ∙ written in
    sym (element_read e right leaves.is_allowed) ∙ ap element_in lines ∙ element_read s normal named
