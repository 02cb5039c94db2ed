-- Laws of normal forests.
use Rattle.std.proofs.Common.{◌≡◌, ◌&&◌, ℕ, Bool, List, [], ◌∷◌, map, refl, ap, ◌∙◌}
use Rattle.std.specs.List.{list_all}
use Rattle.ncq_tree.specs.declared.model.Node.{Node}
use Rattle.ncq_tree.specs.declared.model.Node.TheVariants.{Element as element_node, Text as text_node}
use Rattle.ncq_tree.specs.declared.model.Element.{Element}
use Rattle.ncq_tree.specs.Nodes.{by_nodes_element, by_nodes_text}
use Rattle.ncq_tree.specs.Normal.{normal_of, normal_element, tidy, is_trim, element_is_normal, node_is_normal, is_normal, are_rising, are_apart, sorted, whole_normal}

pub firsts : {A B : Type 0} (f : A → B) (xs : List A) → map (λ (p : A × B). p.0) (map (λ x. (x, f x)) xs) ≡ xs
firsts f [] = refl
firsts f (x ∷ xs) = ap (λ v. x ∷ v) (firsts f xs)

pub seconds : {A : Type 0} (f : A → Bool) (xs : List A) → list_all (λ (p : A × Bool). p.1) (map (λ x. (x, f x)) xs) ≡ list_all f xs
seconds f [] = refl
seconds f (x ∷ xs) = ap (λ v. f x && v) (seconds f xs)

pub other_seconds : {A B : Type 0} (f : A → B) (xs : List A) → map (λ (p : A × B). p.1) (map (λ x. (x, f x)) xs) ≡ map f xs
other_seconds f [] = refl
other_seconds f (x ∷ xs) = ap (λ v. f x ∷ v) (other_seconds f xs)

pub element_normal : (e : Element) → node_is_normal (element_node e) ≡ (are_rising e.attributes && is_normal e.children)
element_normal e =
    by_nodes_element is_trim element_is_normal e
    ∙ ap (λ v. are_rising e.attributes && (are_apart v && list_all (λ (p : Node × Bool). p.1) (map (λ n. (n, node_is_normal n)) e.children))) (firsts node_is_normal e.children)
    ∙ ap (λ v. are_rising e.attributes && (are_apart e.children && v)) (seconds node_is_normal e.children)

pub normal_text : (t : List ℕ) → node_is_normal (text_node t) ≡ is_trim t
normal_text t = by_nodes_text is_trim element_is_normal t

pub ruleset normal_is = (element_normal, normal_text)

pub normal_of_text : (t : List ℕ) → normal_of (text_node t) ≡ text_node t
normal_of_text t = by_nodes_text text_node normal_element t

pub normal_of_element : (e : Element) → normal_of (element_node e) ≡ element_node (whole_normal e)
normal_of_element e =
    by_nodes_element text_node normal_element e
    ∙ ap (λ v. element_node (record { name = e.name; attributes = sorted e.attributes; children = tidy v })) (other_seconds normal_of e.children)

pub ruleset normal_of_is = (normal_of_text, normal_of_element)
