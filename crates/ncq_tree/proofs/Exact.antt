-- `==` of nodes says whether they are one.
use Rattle.std.proofs.Common.{◌≡◌, ◌&&◌, true, false, List, map, nat_eq, sym, ap, ◌∙◌, subst}
use lib.Pointwise.{pointwise, bytes_decides, pointwise_decides}
use Rattle.ncq_base.proofs.Tests.{both_true, exact_items}
use Rattle.ncq_tree.specs.declared.model.Attribute.{Attribute}
use Rattle.ncq_tree.specs.declared.model.Node.{Node}
use Rattle.ncq_tree.specs.declared.model.Element.{Element}
use Rattle.ncq_tree.specs.declared.model.Node.TheOpen.{Node-F}
use Rattle.ncq_tree.specs.declared.model.Node.TheOpen.Node-F.{Text, Element as Inner}
use Rattle.ncq_tree.specs.declared.model.Node.TheFolds.{ind-Node, map-Node}
use Rattle.ncq_tree.specs.declared.model.Node.TheViews.{roll-Node, out-Node, roll-out-Node, out-roll-Node, roll-Element}
use Rattle.ncq_tree.specs.contracts.model.AttributePartialEq.TheImpl.{ghosts as attribute}
use Rattle.ncq_tree.specs.contracts.model.AttributeEq.TheImpl.Laws.{laws-law as attribute_laws}
use Rattle.ncq_tree.specs.contracts.model.NodePartialEq.TheImpl.{ghosts as node}
use Rattle.ncq_tree.specs.contracts.model.NodePartialEq.TheImpl.Laws.{is as node_is, unfolded as node_unfolded}
use Rattle.std.specs.Cmp.{IsTotalOrder}
use Rattle.std.specs.Ordering.{is_eq}
use Rattle.std.specs.Cmp.Lexicographic.{slice_cmp, lists_total, lists_ties}
use Rattle.std.specs.declared.cmp.Ordering.TheVariants.{Equal}
use Rattle.ncq_tree.specs.contracts.model.NodeOrd.TheImpl.{ghosts as order}
use Rattle.ncq_tree.specs.contracts.model.NodeOrd.TheImpl.Laws.{total-law, matches_eq-law}
use Rattle.ncq_tree.specs.contracts.model.NodeEq.TheImpl.Laws.{laws-law}
use Rattle.ncq_tree.specs.contracts.model.ElementPartialEq.TheImpl.{ghosts as element}
use Rattle.ncq_tree.specs.contracts.model.ElementPartialEq.TheImpl.Laws.{is as element_is, unfolded as element_unfolded}

abbrev Exact : Node → Type 0
Exact x = (y : Node) → node.eq x y ≡ true → x ≡ y

abbrev ElementExact : Element → Type 0
ElementExact x = (y : Element) → element.eq x y ≡ true → x ≡ y

attribute_exact : (a b : Attribute) → (attribute.eq a b ≡ true → a ≡ b) × (a ≡ b → attribute.eq a b ≡ true)
attribute_exact a b = (
  λ h. let t = both_true (pointwise nat_eq a.name b.name) (pointwise nat_eq a.value b.value) h in
      λ i. record { name = (bytes_decides a.name b.name).0 t.0 i; value = (bytes_decides a.value b.value).0 t.1 i },
  λ e. subst (λ w. attribute.eq a w ≡ true) e (attribute_laws.refl a),
)

text_is : (s t : List _) → node_unfolded (roll-Node (Text s)) (roll-Node (Text t)) ≡ pointwise nat_eq s t
text_is s t = simp out-roll-Node

text_inner : (s : List _) (e : Element) → node_unfolded (roll-Node (Text s)) (roll-Node (Inner e)) ≡ false
text_inner s e = simp out-roll-Node

inner_text : (s : List _) (e : Element) → node_unfolded (roll-Node (Inner e)) (roll-Node (Text s)) ≡ false
inner_text s e = simp out-roll-Node

inner_is : (d e : Element) → node_unfolded (roll-Node (Inner d)) (roll-Node (Inner e)) ≡ element.eq d e
inner_is d e = simp out-roll-Node

abbrev Claims : Type 0
Claims = Node-F ((x : Node) × Exact x) ((x : Element) × ElementExact x)

abbrev here : Claims → Node
here x = roll-Node (map-Node _ _ _ _ (λ e. e.0) (λ e. e.0) x)

layer : (x : Claims) (z : Node-F Node Element) → node_unfolded (here x) (roll-Node z) ≡ true → here x ≡ roll-Node z
layer (Text s) (Text t) h = ap (λ v. roll-Node (Text v)) ((bytes_decides s t).0 (sym (text_is s t) ∙ h))
layer (Text s) (Inner e) h = let f = text_inner s e in cc
layer (Inner d) (Text t) h = let f = inner_text t d.0 in cc
layer (Inner d) (Inner e) h = ap (λ v. roll-Node (Inner v)) (d.1 e (sym (inner_is d.0 e) ∙ h))

node_step : (x : Claims) → Exact (here x)
node_step x z h =
    let r = roll-out-Node z in
    layer x (out-Node z) (subst (λ w. node_unfolded (here x) w ≡ true) (sym r) (sym (node_is _ z) ∙ h)) ∙ r

children_exact : (ys : List ((n : Node) × Exact n)) (zs : List Node) → pointwise node.eq (map (λ e. e.0) ys) zs ≡ true → map (λ e. e.0) ys ≡ zs
children_exact = exact_items node.eq

element_step : (x z : Element) (ys : List ((n : Node) × Exact n)) → map (λ e. e.0) ys ≡ x.children → element_unfolded x z ≡ true → x ≡ z
element_step x z ys is h =
    let n = both_true (pointwise nat_eq x.name z.name) (pointwise attribute.eq x.attributes z.attributes && pointwise node.eq x.children z.children) h in
    let a = both_true (pointwise attribute.eq x.attributes z.attributes) (pointwise node.eq x.children z.children) n.1 in
    let name = (bytes_decides x.name z.name).0 n.0 in
    let attributes = (pointwise_decides attribute_exact x.attributes z.attributes).0 a.0 in
    let children = sym is ∙ children_exact ys z.children (subst (λ w. pointwise node.eq w z.children ≡ true) (sym is) a.1) in
    λ i. record { name = name i; attributes = attributes i; children = children i }

pub exact_node : (x : Node) → Exact x
exact_node = ind-Node Exact ElementExact
    (λ x y e. subst (λ w. Exact (roll-Node w)) e (node_step y))
    (λ x y e. λ z h. element_step (roll-Element x) z y.children (ap (λ w. w.children) e) (sym (element_is _ z) ∙ h))

pub node_itself : (x : Node) → node.eq x x ≡ true
node_itself x = laws-law.refl x

pub nodes_decided : (a b : List Node) → (pointwise node.eq a b ≡ true → a ≡ b) × (a ≡ b → pointwise node.eq a b ≡ true)
nodes_decided = pointwise_decides (λ x y. (exact_node x y, λ e. subst (λ w. node.eq x w ≡ true) e (node_itself x)))

pub nodes_total : IsTotalOrder (slice_cmp order.cmp)
nodes_total = lists_total total-law

pub nodes_equal : (a b : List Node) → slice_cmp order.cmp a b ≡ Equal → a ≡ b
nodes_equal a b h = (nodes_decided a b).0 (lists_ties order.cmp matches_eq-law a b ∙ ap is_eq h)
