-- The canonical lines of an element spell its put.
use Rattle.std.proofs.Common.{◌≡◌, ℕ, suc, ◌+◌, ◌<◌, ◌≤◌, ◌&&◌, nat_lt, not, true, false, cond, List, [], ◌∷◌, ◌++◌, Option, Some, None, length, take, drop, map, refl, ap, sym, ◌∙◌, subst, append_assoc, append-nil, arith}
use Rattle.std.specs.Option.{option_map}
use Rattle.std.specs.List.{list_all, prefix_len}
use Rattle.std.proofs.lemmas.Bool.Decides.{nat_tests}
use Rattle.std.proofs.Math.Seq.{take-append_seam, drop-append-add}
use Rattle.ncq_base.proofs.Tests.{both_true}
use Rattle.ncq_tree.specs.declared.model.Attribute.{Attribute}
use Rattle.ncq_tree.specs.declared.model.Node.{Node}
use Rattle.ncq_tree.specs.declared.model.Node.TheVariants.{Text as text_node, Element as element_node}
use Rattle.ncq_tree.specs.declared.model.Element.{Element}
use Rattle.ncq_tree.specs.Nodes.{by_nodes_element, by_nodes_text}
use Rattle.ncq_pyx.specs.declared.turns.Turn.TheVariants.{Begin, Give, Say}
use Rattle.ncq_pyx.specs.declared.item.Item.{Item}
use Rattle.ncq_base.specs.Escapes.{unescaped, unescaped_behind, escaped, escaped_byte}
use Rattle.ncq_base.specs.Names.{is_pyx_name, is_pyx_name_byte}
use Rattle.ncq_tree.specs.Normal.{has_name}
use Rattle.ncq_pyx.specs.LineKinds.{is_no_blank, name_part, value_part, give_of}
use Rattle.ncq_pyx.specs.Spells.{Place, Rest, Content, turn, told, fits, spell, begun, put, with_node, Spells, first_content}
use Rattle.ncq_pyx.specs.Canonical.{node_lines, attribute_line, canonical, are_good, is_good, depth, greatest, text_is_good, element_is_good, text_depth, element_depth}
use Rattle.ncq_pyx.proofs.Steps.{spell_line, map_map, finish_line}
use Rattle.ncq_pyx.proofs.LineLaws.{lines_text, lines_element}
use Rattle.ncq_tree.proofs.Inductions.{nodes_induction}
use Rattle.ncq_tree.proofs.NormalLaws.{seconds, other_seconds}

unescape_byte : (b : ℕ) (more : List ℕ) → unescaped_behind false (escaped_byte b ++ more) ≡ b ∷ unescaped_behind false more
unescape_byte b more = grind (arith, nat_tests)

-- what is escaped stands for itself
pub unescape_escaped : (text : List ℕ) → unescaped (escaped text) ≡ text
unescape_escaped [] = refl
unescape_escaped (b ∷ text) = unescape_byte b (escaped text) ∙ ap (λ v. b ∷ v) (unescape_escaped text)

no_blank : (b : ℕ) → is_pyx_name_byte b ≡ true → is_no_blank b ≡ true
no_blank b h = grind (arith, nat_tests)

name_len : (name more : List ℕ) → list_all is_pyx_name_byte name ≡ true → prefix_len is_no_blank (name ++ 32 ∷ more) ≡ length name
name_len [] more h = refl
name_len (b ∷ name) more h =
    let t = both_true (is_pyx_name_byte b) (list_all is_pyx_name_byte name) h in
    let rest = name_len name more t.1 in
    let next : 1 + prefix_len is_no_blank (name ++ 32 ∷ more) ≡ suc (length name) = omega (arith, rest) in
    ap (λ v. cond v (1 + prefix_len is_no_blank (name ++ 32 ∷ more)) 0) (no_blank b t.0) ∙ next

attribute_name : (name more : List ℕ) → is_pyx_name name ≡ true → name_part (name ++ 32 ∷ more) ≡ name
attribute_name name more h =
    let t = both_true (nat_lt 0 (length name)) (list_all is_pyx_name_byte name) h in
    ap (λ n. take n (name ++ 32 ∷ more)) (name_len name more t.1) ∙ take-append_seam name (32 ∷ more)

attribute_value : (name more : List ℕ) → is_pyx_name name ≡ true → value_part (name ++ 32 ∷ more) ≡ more
attribute_value name more h =
    let t = both_true (nat_lt 0 (length name)) (list_all is_pyx_name_byte name) h in
    ap (λ n. drop (n + 1) (name ++ 32 ∷ more)) (name_len name more t.1) ∙ drop-append-add name (32 ∷ more) 1

give_is : (given : List Attribute) (a : Attribute) → is_pyx_name a.name ≡ true → not (has_name given a.name) ≡ true → give_of (Some given) (a.name ++ 32 ∷ escaped a.value) ≡ Some (Give a)
give_is given a good new =
    let text = a.name ++ 32 ∷ escaped a.value in
    ap (λ n. cond (is_pyx_name n && not (has_name given n)) (Some (Give (record { name = n; value = unescaped (value_part text) }))) None) (attribute_name a.name (escaped a.value) good)
    ∙ ap (λ v. cond (is_pyx_name a.name && not (has_name given a.name)) (Some (Give (record { name = a.name; value = unescaped v }))) None) (attribute_value a.name (escaped a.value) good)
    ∙ ap (λ v. cond (is_pyx_name a.name && not (has_name given a.name)) (Some (Give (record { name = a.name; value = v }))) None) (unescape_escaped a.value)
    ∙ ap (λ t. cond (t && not (has_name given a.name)) (Some (Give a)) None) good
    ∙ ap (λ t. cond t (Some (Give a)) None) new

front : List Attribute → List Content → List Content
front attributes [] = []
front attributes (content ∷ contents) = record { attributes = attributes ++ content.attributes; nodes = content.nodes } ∷ contents

with_attributes : List Attribute → Rest → Rest
with_attributes attributes rest = record { contents = front attributes rest.contents; items = rest.items }

front_none : (contents : List Content) → front [] contents ≡ contents
unfolding front
front_none [] = refl
front_none (content ∷ contents) = refl

map_same : (s : Option Rest) (f : Rest → Rest) → ((r : Rest) → f r ≡ r) → s ≡ option_map f s
map_same None f e = refl
map_same (Some r) f e = ap Some (sym (e r))

give_front : (a : Attribute) (more : List Attribute) (place : Place) (contents : List Content) (items : List Item) → with_attributes (a ∷ more) (record { contents = contents; items = items }) ≡ told (Give a) place (with_attributes more (record { contents = contents; items = items }))
unfolding front with_attributes
give_front a more place [] items = refl
give_front a more place (content ∷ contents) items = refl

-- the lines of attributes
spell_attributes : (limit : ℕ) (attributes given : List Attribute) (names lines : List (List ℕ)) → are_good given attributes ≡ true
    → spell limit (map attribute_line attributes ++ lines) (record { open_names = names; given = Some given }) ≡ option_map (with_attributes attributes) (spell limit lines (record { open_names = names; given = Some (given ++ attributes) }))
unfolding with_attributes
spell_attributes limit [] given names lines h =
    ap (λ g. spell limit lines (record { open_names = names; given = Some g })) (sym (append-nil given))
    ∙ map_same (spell limit lines (record { open_names = names; given = Some (given ++ []) })) (with_attributes []) (λ r. ap (λ c. record { contents = c; items = r.items }) (front_none r.contents))
spell_attributes limit (a ∷ more) given names lines h =
    let t = both_true (is_pyx_name a.name && not (has_name given a.name)) (are_good (given ++ a ∷ []) more) h in
    let u = both_true (is_pyx_name a.name) (not (has_name given a.name)) t.0 in
    let place : Place = record { open_names = names; given = Some given } in
    let last : Place = record { open_names = names; given = Some (given ++ a ∷ more) } in
    spell_line limit (map attribute_line more ++ lines) (attribute_line a) place (Give a) (give_is given a u.0 u.1) refl
    ∙ ap (option_map (told (Give a) place)) (spell_attributes limit more (given ++ a ∷ []) names lines t.1
    ∙ ap (λ g. option_map (with_attributes more) (spell limit lines (record { open_names = names; given = Some g }))) (append_assoc given (a ∷ []) more))
    ∙ map_map (spell limit lines last) (told (Give a) place) (with_attributes more) (with_attributes (a ∷ more)) (λ r. give_front a more place r.contents r.items)

-- the nodes as the whole content of an element, which ends behind them
content_of : List Node → Rest → Rest
content_of nodes rest = record { contents = record { attributes = []; nodes = nodes } ∷ rest.contents; items = rest.items }

told_node : Node → Rest → Rest
told_node node rest = record { contents = with_node node rest.contents; items = rest.items }

-- the lines of a node in an element
abbrev SpellsNode : Node → Type 0
SpellsNode node = (limit : ℕ) (outer : List ℕ) (names : List (List ℕ)) (given : Option (List Attribute)) (lines : List (List ℕ)) → is_good node ≡ true → length (outer ∷ names) + depth node ≤ limit
    → spell limit (node_lines node ++ lines) (record { open_names = outer ∷ names; given = given }) ≡ option_map (told_node node) (spell limit lines (record { open_names = outer ∷ names; given = None }))

spells_text : (text : List ℕ) → SpellsNode (text_node text)
unfolding told_node
spells_text text limit outer names given lines good deep =
    let place : Place = record { open_names = outer ∷ names; given = given } in
    let t : turn place (45 ∷ escaped text) ≡ Some (Say text) = ap (λ v. Some (Say v)) (unescape_escaped text) in
    ap (λ l. spell limit (l ++ lines) place) (lines_text text)
    ∙ spell_line limit lines (45 ∷ escaped text) place (Say text) t refl

-- nodes, and the line that closes the element around them
spells_content : (below : List ((n : Node) × SpellsNode n)) (limit : ℕ) (name : List ℕ) (names : List (List ℕ)) (given : Option (List Attribute)) (lines : List (List ℕ)) → list_all is_good (map (λ e. e.0) below) ≡ true → length (name ∷ names) + greatest (map depth (map (λ e. e.0) below)) ≤ limit
    → spell limit (canonical (map (λ e. e.0) below) ++ ((41 ∷ name) ∷ lines)) (record { open_names = name ∷ names; given = given }) ≡ option_map (content_of (map (λ e. e.0) below)) (spell limit lines (record { open_names = names; given = None }))
unfolding content_of told_node
spells_content [] limit name names given lines good deep = finish_line limit name names given lines
spells_content (node ∷ below) limit name names given lines good deep =
    let nodes = map (λ (e : (n : Node) × SpellsNode n). e.0) below in
    let t = both_true (is_good node.0) (list_all is_good nodes) good in
    let here : length (name ∷ names) + depth node.0 ≤ limit = omega arith in
    let there : length (name ∷ names) + greatest (map depth nodes) ≤ limit = omega arith in
    ap (λ l. spell limit l (record { open_names = name ∷ names; given = given })) (append_assoc (node_lines node.0) (canonical nodes) ((41 ∷ name) ∷ lines))
    ∙ node.1 limit name names given (canonical nodes ++ ((41 ∷ name) ∷ lines)) t.0 here
    ∙ ap (option_map (told_node node.0)) (spells_content below limit name names None lines t.1 there)
    ∙ map_map (spell limit lines (record { open_names = names; given = None })) (told_node node.0) (content_of nodes) (content_of (node.0 ∷ nodes)) (λ r. refl)

pub good_text : (text : List ℕ) → is_good (text_node text) ≡ true
good_text text = by_nodes_text text_is_good element_is_good text

pub good_element : (e : Element) → is_good (element_node e) ≡ (is_pyx_name e.name && are_good [] e.attributes && list_all is_good e.children)
good_element e =
    by_nodes_element text_is_good element_is_good e
    ∙ ap (λ v. is_pyx_name e.name && are_good [] e.attributes && v) (seconds is_good e.children)

depth_element : (e : Element) → depth (element_node e) ≡ greatest (map depth e.children) + 1
depth_element e = by_nodes_element text_depth element_depth e ∙ ap (λ v. greatest v + 1) (other_seconds depth e.children)

-- the lines of an element, at any place
spells_element : (name : List ℕ) (attributes : List Attribute) (below : List ((n : Node) × SpellsNode n)) (limit : ℕ) (names : List (List ℕ)) (given : Option (List Attribute)) (lines : List (List ℕ))
    → is_good (element_node (record { name = name; attributes = attributes; children = map (λ e. e.0) below })) ≡ true → length names + depth (element_node (record { name = name; attributes = attributes; children = map (λ e. e.0) below })) ≤ limit
    → spell limit (node_lines (element_node (record { name = name; attributes = attributes; children = map (λ e. e.0) below })) ++ lines) (record { open_names = names; given = given })
    ≡ option_map (λ r. begun names name (record { contents = record { attributes = attributes; nodes = map (λ e. e.0) below } ∷ r.contents; items = r.items })) (spell limit lines (record { open_names = names; given = None }))
unfolding content_of with_attributes front
spells_element name attributes below limit names given lines good deep =
    let nodes = map (λ (e : (n : Node) × SpellsNode n). e.0) below in
    let e : Element = record { name = name; attributes = attributes; children = nodes } in
    let t = both_true (is_pyx_name name && are_good [] attributes) (list_all is_good nodes) (sym (good_element e) ∙ good) in
    let u = both_true (is_pyx_name name) (are_good [] attributes) t.0 in
    let d = depth_element e in
    let room : length names < limit = omega (arith, d) in
    let there : length (name ∷ names) + greatest (map depth nodes) ≤ limit = omega (arith, d) in
    let place : Place = record { open_names = names; given = given } in
    let inside : Place = record { open_names = name ∷ names; given = Some [] } in
    let begins : turn place (40 ∷ name) ≡ Some (Begin name) = ap (λ b. cond b (Some (Begin name)) None) u.0 in
    let fit : fits limit (length names) (Begin name) ≡ true = grind (arith, nat_tests) in
    let rest = spell limit lines (record { open_names = names; given = None }) in
    ap (λ l. spell limit (l ++ lines) place) (lines_element e)
    ∙ ap (λ l. spell limit ((40 ∷ name) ∷ l) place)
    (append_assoc (map attribute_line attributes) (canonical nodes ++ (41 ∷ name) ∷ []) lines
    ∙ ap (λ l. map attribute_line attributes ++ l) (append_assoc (canonical nodes) ((41 ∷ name) ∷ []) lines))
    ∙ spell_line limit (map attribute_line attributes ++ (canonical nodes ++ ((41 ∷ name) ∷ lines))) (40 ∷ name) place (Begin name) begins fit
    ∙ ap (option_map (told (Begin name) place))
    (spell_attributes limit attributes [] (name ∷ names) (canonical nodes ++ ((41 ∷ name) ∷ lines)) u.1
    ∙ ap (option_map (with_attributes attributes)) (spells_content below limit name names (Some attributes) lines t.1 there)
    ∙ map_map rest (with_attributes attributes) (content_of nodes) (λ (r : Rest). record { contents = record { attributes = attributes; nodes = nodes } ∷ r.contents; items = r.items })
    (λ r. ap (λ a. record { contents = record { attributes = a; nodes = nodes } ∷ r.contents; items = r.items }) (sym (append-nil attributes))))
    ∙ map_map rest (told (Begin name) place) (λ (r : Rest). record { contents = record { attributes = attributes; nodes = nodes } ∷ r.contents; items = r.items })
    (λ (r : Rest). begun names name (record { contents = record { attributes = attributes; nodes = nodes } ∷ r.contents; items = r.items })) (λ r. refl)

spells_inner : (name : List ℕ) (attributes : List Attribute) (below : List ((n : Node) × SpellsNode n)) → SpellsNode (element_node (record { name = name; attributes = attributes; children = map (λ e. e.0) below }))
unfolding told_node
spells_inner name attributes below limit outer names given lines good deep =
    spells_element name attributes below limit (outer ∷ names) given lines good deep

spells_node : (node : Node) → SpellsNode node
spells_node = nodes_induction SpellsNode spells_text spells_inner

known : List Node → List ((n : Node) × SpellsNode n)
known [] = []
known (node ∷ nodes) = (node, spells_node node) ∷ known nodes

known_are : (nodes : List Node) → map (λ (e : (n : Node) × SpellsNode n). e.0) (known nodes) ≡ nodes
unfolding known
known_are [] = refl
known_are (node ∷ nodes) = ap (λ v. node ∷ v) (known_are nodes)

pub spells_put : (limit : ℕ) (e : Element) → is_good (element_node e) ≡ true → depth (element_node e) ≤ limit → Spells limit (node_lines (element_node e)) (put e ∷ [])
spells_put limit e good deep =
    let P : List Node → Type 0 = λ nodes. is_good (element_node (record { name = e.name; attributes = e.attributes; children = nodes })) ≡ true → depth (element_node (record { name = e.name; attributes = e.attributes; children = nodes })) ≤ limit
    → Spells limit (node_lines (element_node (record { name = e.name; attributes = e.attributes; children = nodes }))) (put (record { name = e.name; attributes = e.attributes; children = nodes }) ∷ []) in
    let here : P (map (λ (x : (n : Node) × SpellsNode n). x.0) (known e.children)) = λ g d.
    ap (option_map (λ (rest : Rest). rest.items))
    (ap (λ l. spell limit l (record { open_names = []; given = None })) (sym (append-nil (node_lines (element_node (record { name = e.name; attributes = e.attributes; children = map (λ (x : (n : Node) × SpellsNode n). x.0) (known e.children) })))))
    ∙ spells_element e.name e.attributes (known e.children) limit [] None [] g (omega (arith, d))) in
    subst P (known_are e.children) here good deep

-- the nodes of an element stand in its lines alone
spells_forest : (limit : ℕ) (forest : List Node) → list_all is_good forest ≡ true → 1 + greatest (map depth forest) ≤ limit
    → spell limit (canonical forest ++ ((41 ∷ []) ∷ [])) (record { open_names = [] ∷ []; given = None }) ≡ Some (record { contents = record { attributes = []; nodes = forest } ∷ []; items = [] })
unfolding content_of
spells_forest limit forest good deep =
    let P : List Node → Type 0 = λ nodes. list_all is_good nodes ≡ true → 1 + greatest (map depth nodes) ≤ limit
    → spell limit (canonical nodes ++ ((41 ∷ []) ∷ [])) (record { open_names = [] ∷ []; given = None }) ≡ Some (record { contents = record { attributes = []; nodes = nodes } ∷ []; items = [] }) in
    let here : P (map (λ (x : (n : Node) × SpellsNode n). x.0) (known forest)) = λ g d. spells_content (known forest) limit [] [] None [] g d in
    subst P (known_are forest) here good deep

first_nodes : Option Rest → List Node
first_nodes None = []
first_nodes (Some rest) = (first_content rest.contents).nodes

pub one_forest : (a b : List Node) → list_all is_good a ≡ true → list_all is_good b ≡ true → canonical a ≡ canonical b → a ≡ b
unfolding first_nodes
one_forest a b good_a good_b same =
    let limit = 1 + (greatest (map depth a) + greatest (map depth b)) in
    let x = spells_forest limit a good_a (omega arith) in
    let y = spells_forest limit b good_b (omega arith) in
    ap first_nodes (sym x ∙ ap (λ l. spell limit (l ++ ((41 ∷ []) ∷ [])) (record { open_names = [] ∷ []; given = None })) same ∙ y)
