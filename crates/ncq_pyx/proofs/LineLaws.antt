-- Laws of canonical lines.
use Rattle.std.proofs.Common.{◌≡◌, ℕ, List, [], ◌∷◌, ◌++◌, map, ap, sym, ◌∙◌, append_assoc, append-nil}
use Rattle.std.proofs.lemmas.List.Folds.{flat_map-map}
use Rattle.std.proofs.lemmas.List.Concat.{flat_map-append}
use Rattle.ncq_tree.specs.declared.model.Node.{Node}
use Rattle.ncq_tree.specs.declared.model.Node.TheVariants.{Element as element_node, Text as text_node}
use Rattle.ncq_tree.specs.declared.model.Element.{Element}
use Rattle.ncq_tree.specs.Nodes.{by_nodes_element, by_nodes_text}
use Rattle.ncq_base.specs.Escapes.{escaped}
use Rattle.ncq_pyx.specs.Canonical.{node_lines, text_lines, element_lines, attribute_line, canonical, bytes_of_lines, ended, pyx}
use Rattle.ncq_tree.specs.declared.model.Attribute.{Attribute}

pub lines_text : (t : List ℕ) → node_lines (text_node t) ≡ (45 ∷ escaped t) ∷ []
lines_text t = by_nodes_text text_lines element_lines t

pub lines_element : (e : Element) → node_lines (element_node e) ≡ (40 ∷ e.name) ∷ (map attribute_line e.attributes ++ (canonical e.children ++ (41 ∷ e.name) ∷ []))
lines_element e =
    by_nodes_element text_lines element_lines e
    ∙ ap (λ v. (40 ∷ e.name) ∷ (map attribute_line e.attributes ++ (v ++ (41 ∷ e.name) ∷ []))) (flat_map-map (λ p. p.1) (λ n. (n, node_lines n)) e.children)

pub bytes_append : (a b : List (List ℕ)) → bytes_of_lines (a ++ b) ≡ bytes_of_lines a ++ bytes_of_lines b
bytes_append a b = flat_map-append ended a b

pub ruleset lines_are = (lines_text, lines_element, bytes_append)

pub element_bytes : (e : Element) → bytes_of_lines (node_lines (element_node e)) ≡ ended (40 ∷ e.name) ++ (bytes_of_lines (map attribute_line e.attributes) ++ (pyx e.children ++ ended (41 ∷ e.name)))
element_bytes e =
    ap bytes_of_lines (lines_element e)
    ∙ ap (λ v. ended (40 ∷ e.name) ++ v)
    (bytes_append (map attribute_line e.attributes) (canonical e.children ++ (41 ∷ e.name) ∷ [])
    ∙ ap (λ v. bytes_of_lines (map attribute_line e.attributes) ++ v)
    (bytes_append (canonical e.children) ((41 ∷ e.name) ∷ []) ∙ ap (λ v. pyx e.children ++ v) (append-nil (ended (41 ∷ e.name)))))

regroup : (o a b c d : List ℕ) → (((o ++ a) ++ b) ++ c) ++ d ≡ o ++ (a ++ (b ++ (c ++ d)))
regroup o a b c d = simp append_assoc

pub text_written : (node : Node) (text slice out new : List ℕ) → node ≡ text_node text → slice ≡ text → new ≡ out ++ ended (45 ∷ escaped slice) → new ≡ out ++ bytes_of_lines (node_lines node)
text_written node text slice out new is same written =
    written ∙ ap (λ v. out ++ ended (45 ∷ escaped v)) same
    ∙ ap (λ v. out ++ v) (sym (append-nil (ended (45 ∷ escaped text))) ∙ ap bytes_of_lines (sym (lines_text text)) ∙ ap (λ n. bytes_of_lines (node_lines n)) (sym is))

pub element_written : (e : Element) (n1 n2 : List ℕ) (attributes : List Attribute) (out out1 out2 out3 new : List ℕ)
    → n1 ≡ e.name → n2 ≡ e.name → attributes ≡ e.attributes
    → out1 ≡ out ++ ended (40 ∷ n1) → out2 ≡ out1 ++ bytes_of_lines (map attribute_line attributes) → out3 ≡ out2 ++ pyx e.children → new ≡ out3 ++ ended (41 ∷ n2)
    → new ≡ out ++ bytes_of_lines (node_lines (element_node e))
element_written e n1 n2 attributes out out1 out2 out3 new a b c w1 w2 w3 w4 =
    let f1 : out1 ≡ out ++ ended (40 ∷ e.name) = w1 ∙ ap (λ n. out ++ ended (40 ∷ n)) a in
    let f2 : out2 ≡ out1 ++ bytes_of_lines (map attribute_line e.attributes) = w2 ∙ ap (λ n. out1 ++ bytes_of_lines (map attribute_line n)) c in
    let f4 : new ≡ out3 ++ ended (41 ∷ e.name) = w4 ∙ ap (λ n. out3 ++ ended (41 ∷ n)) b in
    f4
    ∙ ap (λ v. v ++ ended (41 ∷ e.name)) (w3 ∙ ap (λ v. v ++ pyx e.children) (f2 ∙ ap (λ v. v ++ bytes_of_lines (map attribute_line e.attributes)) f1))
    ∙ regroup out (ended (40 ∷ e.name)) (bytes_of_lines (map attribute_line e.attributes)) (pyx e.children) (ended (41 ∷ e.name))
    ∙ ap (λ v. out ++ v) (sym (element_bytes e))
