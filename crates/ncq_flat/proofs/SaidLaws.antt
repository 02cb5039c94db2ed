-- The texts that are found on the lines of an element are its texts.
use Rattle.std.proofs.Common.{◌≡◌, ℕ, ◌+◌, Bool, true, false, List, [], ◌∷◌, ◌++◌, map, refl, ap, sym, ◌∙◌, append_assoc, append-nil, eqb-true, ◌==◌, arith, Option, Some, None}
use Rattle.std.specs.List.{flat_map}
use Rattle.ncq_base.specs.Escapes.{escaped, unescaped}
use Rattle.ncq_base.specs.Lines.{IsClean, lines_in}
use Rattle.ncq_base.proofs.LineLaws.{lines_in-cut, lines_in-clean}
use Rattle.ncq_tree.specs.declared.model.Attribute.{Attribute}
use Rattle.ncq_tree.specs.declared.model.Node.{Node}
use Rattle.ncq_tree.specs.declared.model.Node.TheVariants.{Element as element_node, Text as text_node}
use Rattle.ncq_tree.specs.declared.model.Element.{Element}
use Rattle.ncq_tree.specs.Texts.{Strings, texts, texts_of, joined, string_value, following, has_text}
use Rattle.ncq_tree.proofs.Texts.{texts_element, texts_text, following-append}
use Rattle.ncq_tree.proofs.Inductions.{nodes_induction}
use Rattle.ncq_pyx.specs.Canonical.{node_lines, attribute_line, canonical}
use Rattle.ncq_pyx.proofs.LineLaws.{lines_text, lines_element}
use Rattle.ncq_pyx.proofs.CanonicalLaws.{unescape_escaped}
use Rattle.ncq_flat.specs.Said.{said_in, texts_in, texts_left, string_value_in}
use Rattle.ncq_flat.specs.Insides.{inside_of}

-- a node says its texts, and leaves as many open as were open before it
abbrev IsSaid : Node → Type 0
IsSaid node = (depth : ℕ) (more : List (List ℕ)) → texts_in depth (node_lines node ++ more) ≡ texts_of node ++ texts_in depth more

text_said : (text : List ℕ) → IsSaid (text_node text)
text_said text depth more =
    ap (λ (l : List (List ℕ)). texts_in depth (l ++ more)) (lines_text text)
    ∙ ap (λ (t : List ℕ). t ∷ texts_in depth more) (unescape_escaped text)
    ∙ sym (ap (λ (t : Strings). t ++ texts_in depth more) (texts_text text))

attributes_said : (attributes : List Attribute) (depth : ℕ) (more : List (List ℕ)) → texts_in depth (map attribute_line attributes ++ more) ≡ texts_in depth more
attributes_said [] depth more = refl
attributes_said (a ∷ attributes) depth more = attributes_said attributes depth more

all_said : (below : List ((n : Node) × IsSaid n)) (depth : ℕ) (more : List (List ℕ)) → texts_in depth (canonical (map (λ e. e.0) below) ++ more) ≡ texts (map (λ e. e.0) below) ++ texts_in depth more
all_said [] depth more = refl
all_said (node ∷ below) depth more =
    let nodes = map (λ (e : (n : Node) × IsSaid n). e.0) below in
    ap (texts_in depth) (append_assoc (node_lines node.0) (canonical nodes) more)
    ∙ node.1 depth (canonical nodes ++ more)
    ∙ ap (λ (t : Strings). texts_of node.0 ++ t) (all_said below depth more)
    ∙ sym (append_assoc (texts_of node.0) (texts nodes) (texts_in depth more))

closed : (depth : ℕ) (name : List ℕ) (more : List (List ℕ)) → texts_in (depth + 1) ((41 ∷ name) ∷ more) ≡ texts_in depth more
closed depth name more = grind arith

element_said : (name : List ℕ) (attributes : List Attribute) (below : List ((n : Node) × IsSaid n)) → IsSaid (element_node (record { name = name; attributes = attributes; children = map (λ e. e.0) below }))
element_said name attributes below depth more =
    let nodes = map (λ (x : (n : Node) × IsSaid n). x.0) below in
    let e : Element = record { name = name; attributes = attributes; children = nodes } in
    ap (λ (l : List (List ℕ)). texts_in depth (l ++ more)) (lines_element e)
    ∙ ap (texts_in (depth + 1)) (append_assoc (map attribute_line attributes) (canonical nodes ++ (41 ∷ name) ∷ []) more)
    ∙ attributes_said attributes (depth + 1) ((canonical nodes ++ (41 ∷ name) ∷ []) ++ more)
    ∙ ap (texts_in (depth + 1)) (append_assoc (canonical nodes) ((41 ∷ name) ∷ []) more)
    ∙ all_said below (depth + 1) ((41 ∷ name) ∷ more)
    ∙ ap (λ (t : Strings). texts nodes ++ t) (closed depth name more)
    ∙ sym (ap (λ (t : Strings). t ++ texts_in depth more) (texts_element e))

said : (node : Node) → IsSaid node
said = nodes_induction IsSaid text_said element_said

forest_said : (forest : List Node) (depth : ℕ) (more : List (List ℕ)) → texts_in depth (canonical forest ++ more) ≡ texts forest ++ texts_in depth more
forest_said [] depth more = refl
forest_said (node ∷ forest) depth more =
    ap (texts_in depth) (append_assoc (node_lines node) (canonical forest) more)
    ∙ said node depth (canonical forest ++ more)
    ∙ ap (λ (t : Strings). texts_of node ++ t) (forest_said forest depth more)
    ∙ sym (append_assoc (texts_of node) (texts forest) (texts_in depth more))

-- of an element, from inside it on
pub inside_said : (e : Element) (more : List (List ℕ)) → texts_in 0 (inside_of e more) ≡ texts e.children
inside_said e more =
    attributes_said e.attributes 0 (canonical e.children ++ (41 ∷ e.name) ∷ more)
    ∙ forest_said e.children 0 ((41 ∷ e.name) ∷ more) ∙ append-nil (texts e.children)

pub inside_value : (e : Element) (more : List (List ℕ)) → string_value_in (inside_of e more) ≡ string_value e.children
inside_value e more = ap joined (inside_said e more)

-- the string value of the element itself
pub whole_value : (e : Element) → string_value_in (node_lines (element_node e)) ≡ string_value e.children
whole_value e =
    ap string_value_in (sym (append-nil (node_lines (element_node e))))
    ∙ ap joined (said (element_node e) 0 [] ∙ append-nil (texts_of (element_node e)) ∙ texts_element e)

no_following : (behind : Bool) → following behind [] ≡ []
no_following true = refl
no_following false = refl

-- behind a line more
pub next_said : (out next all : List ℕ) (behind now : Bool) (rest line more : List ℕ) (depth : ℕ) (found : Option ℕ)
    → IsClean line → rest ≡ line ++ 10 ∷ more
    → next ≡ out ++ following behind (said_in line) → now ≡ has_text behind (said_in line)
    → ((lines : List (List ℕ)) → texts_in depth (line ∷ lines) ≡ said_in line ++ texts_left found lines)
    → out ++ following behind (texts_in depth (lines_in rest)) ≡ all
    → next ++ following now (texts_left found (lines_in more)) ≡ all
next_said out next all behind now rest line more depth found clean cut bytes said step left =
    let lines = texts_left found (lines_in more) in
    (λ i. bytes i ++ following (said i) lines)
    ∙ append_assoc out (following behind (said_in line)) (following (has_text behind (said_in line)) lines)
    ∙ ap (λ (t : List ℕ). out ++ t) (sym (following-append behind (said_in line) lines))
    ∙ ap (λ (t : Strings). out ++ following behind t) (sym (step (lines_in more)))
    ∙ ap (λ (l : List (List ℕ)). out ++ following behind (texts_in depth l)) (sym (ap lines_in cut ∙ lines_in-cut line more clean))
    ∙ left

-- nothing is said any more
pub all_was_said : (out all : List ℕ) (behind : Bool) → out ++ following behind [] ≡ all → out ≡ all
all_was_said out all behind h = sym (append-nil out) ∙ ap (λ (t : List ℕ). out ++ t) (sym (no_following behind)) ∙ h

pub end_was_said : (out all rest : List ℕ) (behind : Bool) (depth : ℕ) → IsClean rest → out ++ following behind (texts_in depth (lines_in rest)) ≡ all → out ≡ all
end_was_said out all rest behind depth clean h =
    all_was_said out all behind (ap (λ (l : List (List ℕ)). out ++ following behind (texts_in depth l)) (sym (lines_in-clean rest clean)) ∙ h)

-- a text alone
pub alone_lines : (text line more closing behind word name : List ℕ) (mark last : ℕ) → IsClean line → text ≡ line ++ 10 ∷ more → IsClean closing → more ≡ closing ++ 10 ∷ behind
    → line ≡ mark ∷ word → closing ≡ last ∷ name → (mark == 45) ≡ true → (last == 41) ≡ true → lines_in text ≡ (45 ∷ word) ∷ (41 ∷ name) ∷ lines_in behind
alone_lines text line more closing behind word name mark last clean cut clean' cut' is is' m l =
    ap lines_in cut ∙ lines_in-cut line more clean ∙ ap (λ (ls : List (List ℕ)). line ∷ ls) (ap lines_in cut' ∙ lines_in-cut closing behind clean')
    ∙ (λ i. is i ∷ is' i ∷ lines_in behind)
    ∙ (λ i. (eqb-true mark 45 m i ∷ word) ∷ (eqb-true last 41 l i ∷ name) ∷ lines_in behind)

pub alone_said : (text behind word name : List ℕ) → lines_in text ≡ (45 ∷ word) ∷ (41 ∷ name) ∷ lines_in behind → string_value_in (lines_in text) ≡ unescaped word
alone_said text behind word name is = ap string_value_in is ∙ append-nil (unescaped word)
