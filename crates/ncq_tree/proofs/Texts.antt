-- Laws of the texts of a forest.
use Rattle.std.proofs.Common.{◌≡◌, ℕ, ◌+◌, ◌<◌, length, get_or, take, Bool, true, false, List, [], ◌∷◌, ◌++◌, refl, sym, ◌∙◌, ap, append_assoc, append-nil, arith}
use Rattle.std.proofs.lemmas.List.Folds.{flat_map-map}
use Rattle.std.proofs.lemmas.List.{take_more, flat_map_more}
use Rattle.ncq_tree.specs.Texts.{Strings, texts, texts_of, joined, string_value, following, has_text, spaced, of_text, of_element}
use Rattle.ncq_tree.specs.Nodes.{by_nodes_element, by_nodes_text}
use Rattle.ncq_tree.specs.declared.model.Node.{Node}
use Rattle.ncq_tree.specs.declared.model.Node.TheVariants.{Element as element_node, Text as text_node}
use Rattle.ncq_tree.specs.declared.model.Element.{Element}

pub texts_element : (e : Element) → texts_of (element_node e) ≡ texts e.children
texts_element e = by_nodes_element of_text of_element e ∙ flat_map-map (λ p. p.1) (λ n. (n, texts_of n)) e.children

pub texts_text : (t : List ℕ) → texts_of (text_node t) ≡ t ∷ []
texts_text t = by_nodes_text of_text of_element t

pub spaced-append : (xs ys : Strings) → spaced (xs ++ ys) ≡ spaced xs ++ spaced ys
spaced-append [] ys = refl
spaced-append (x ∷ xs) ys = ap (λ z. 32 ∷ x ++ z) (spaced-append xs ys) ∙ sym (append_assoc (32 ∷ x) (spaced xs) (spaced ys))

pub following-append : (any : Bool) (xs ys : Strings) → following any (xs ++ ys) ≡ following any xs ++ following (has_text any xs) ys
following-append true [] ys = refl
following-append false [] ys = refl
following-append true (x ∷ xs) ys = spaced-append (x ∷ xs) ys
following-append false (x ∷ xs) ys = ap (λ z. x ++ z) (spaced-append xs ys) ∙ sym (append_assoc x (spaced xs) (spaced ys))

pub has_text-append : (any : Bool) (xs ys : Strings) → has_text any (xs ++ ys) ≡ has_text (has_text any xs) ys
has_text-append any [] ys = refl
has_text-append any (x ∷ xs) [] = refl
has_text-append any (x ∷ xs) (y ∷ ys) = refl

-- the texts of one node more
pub texts-more : (xs : List Node) (i : ℕ) (node : Node) → i < length xs → node ≡ get_or xs i node → texts (take (i + 1) xs) ≡ texts (take i xs) ++ texts_of node
texts-more xs i node h e =
    ap texts (take_more xs i node h) ∙ ap (λ x. texts (take i xs ++ x ∷ [])) (sym e)
    ∙ sym (flat_map_more texts_of [] (take i xs) node)

-- one text alone is the string value
pub one_text : (nodes : List Node) (node : Node) (text : List ℕ) → length nodes ≡ 1 → node ≡ get_or nodes 0 node → node ≡ text_node text → text ≡ string_value nodes
one_text [] node text e p q = absurd (omega arith)
one_text (n ∷ []) node text e p q =
    sym (append-nil text)
    ∙ sym (ap (λ ts. joined (ts ++ [])) (ap texts_of (sym p ∙ q) ∙ texts_text text))
one_text (n ∷ m ∷ more) node text e p q = absurd (omega arith)

-- the texts of a node, by its variant
pub ruleset texts_are = (texts_text, texts_element)
