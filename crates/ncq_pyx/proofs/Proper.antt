-- Proper elements.
use Rattle.std.proofs.Common.{◌≡◌, ◌≤◌, ◌&&◌, not, ℕ, Bool, true, false, Option, Some, None, List, [], ◌∷◌, ◌++◌, map, refl, ap, sym, ◌∙◌, subst}
use Rattle.std.specs.List.{list_all}
use Rattle.std.specs.Ordering.{nat_cmp}
use Rattle.std.specs.declared.cmp.Ordering.TheVariants.{Less, Equal}
use Rattle.std.specs.Cmp.Lexicographic.{slice_cmp}
use Rattle.std.proofs.lemmas.Cmp.{nat_list_cmp_total, tied_itself}
use lib.Pointwise.{bytes_decides}
use Rattle.ncq_base.proofs.Tests.{both_true}
use Rattle.ncq_tree.specs.declared.model.Attribute.{Attribute}
use Rattle.ncq_tree.specs.declared.model.Node.{Node}
use Rattle.ncq_tree.specs.declared.model.Node.TheVariants.{Element as element_node}
use Rattle.ncq_tree.specs.declared.model.Element.{Element}
use Rattle.ncq_tree.specs.Nodes.{by_nodes_element}
use Rattle.ncq_tree.specs.Normal.{node_is_normal, is_normal, are_apart, are_rising, are_rising_behind, is_before}
use Rattle.ncq_tree.proofs.NormalLaws.{seconds, element_normal}
use Rattle.ncq_tree.proofs.NormalAgain.{all_below, stands_below, step_below, next_below, whole_normal_stays}
use Rattle.ncq_tree.proofs.Inductions.{nodes_induction}
use Rattle.ncq_pyx.specs.declared.item.Item.TheVariants.{Put}
use Rattle.ncq_base.specs.Names.{is_pyx_name}
use Rattle.ncq_tree.specs.Normal.{has_name}
use Rattle.ncq_pyx.specs.LineKinds.{same}
use Rattle.ncq_pyx.specs.Spells.{Spells}
use Rattle.ncq_pyx.specs.Canonical.{node_lines, are_good, is_good, is_named, has_good_name, depth, text_is_named, element_is_named}
use Rattle.ncq_pyx.proofs.CanonicalLaws.{good_element, good_text, spells_put}

differs : (a b : List ℕ) (t : Bool) → t ≡ same a b → slice_cmp nat_cmp a b ≡ Less → t ≡ false
differs a b false e lt = refl
differs a b true e lt =
    let is : a ≡ b = (bytes_decides a b).0 (sym e) in
    let tied : slice_cmp nat_cmp a b ≡ Equal = subst (λ v. slice_cmp nat_cmp a v ≡ Equal) is (tied_itself nat_list_cmp_total a) in
    cc

no_name : (name : List ℕ) (given : List Attribute) → all_below name given → has_name given name ≡ false
no_name name [] h = refl
no_name name (a ∷ given) h = rw (differs a.name name (same a.name name) refl h.0) (no_name name given h.1)

both : (s t : Bool) → s ≡ true → t ≡ true → (s && t) ≡ true
both s t a b = rw (a, b) refl

rising_good : (attributes given : List Attribute) (last : Option (List ℕ)) → stands_below last given → are_rising_behind last attributes ≡ true → list_all has_good_name attributes ≡ true → are_good given attributes ≡ true
rising_good [] given last h rising named = refl
rising_good (a ∷ more) given last h rising named =
    let t = both_true (is_before last a.name) (are_rising_behind (Some a.name) more) rising in
    let u = both_true (has_good_name a) (list_all has_good_name more) named in
    let below = step_below last given a h t.0 in
    both (is_pyx_name a.name && not (has_name given a.name)) (are_good (given ++ a ∷ []) more)
    (both (is_pyx_name a.name) (not (has_name given a.name)) u.0 (ap not (no_name a.name given below)))
    (rising_good more (given ++ a ∷ []) (Some a.name) (next_below given a below) t.1 u.1)

pub named_element : (e : Element) → is_named (element_node e) ≡ (is_pyx_name e.name && list_all has_good_name e.attributes && list_all is_named e.children)
named_element e =
    by_nodes_element text_is_named element_is_named e
    ∙ ap (λ v. is_pyx_name e.name && list_all has_good_name e.attributes && v) (seconds is_named e.children)

abbrev ProperNode : Node → Type 0
ProperNode node = node_is_normal node ≡ true → is_named node ≡ true → is_good node ≡ true

all_good : (below : List ((n : Node) × ProperNode n)) → list_all node_is_normal (map (λ e. e.0) below) ≡ true → list_all is_named (map (λ e. e.0) below) ≡ true → list_all is_good (map (λ e. e.0) below) ≡ true
all_good [] h i = refl
all_good (node ∷ below) h i =
    let nodes = map (λ (e : (n : Node) × ProperNode n). e.0) below in
    let t = both_true (node_is_normal node.0) (list_all node_is_normal nodes) h in
    let u = both_true (is_named node.0) (list_all is_named nodes) i in
    both (is_good node.0) (list_all is_good nodes) (node.1 t.0 u.0) (all_good below t.1 u.1)

proper_element : (name : List ℕ) (attributes : List Attribute) (below : List ((n : Node) × ProperNode n)) → ProperNode (element_node (record { name = name; attributes = attributes; children = map (λ e. e.0) below }))
proper_element name attributes below normal named =
    let nodes = map (λ (x : (n : Node) × ProperNode n). x.0) below in
    let e : Element = record { name = name; attributes = attributes; children = nodes } in
    let t = both_true (are_rising attributes) (is_normal nodes) (sym (element_normal e) ∙ normal) in
    let s = both_true (are_apart nodes) (list_all node_is_normal nodes) t.1 in
    let u = both_true (is_pyx_name name && list_all has_good_name attributes) (list_all is_named nodes) (sym (named_element e) ∙ named) in
    let v = both_true (is_pyx_name name) (list_all has_good_name attributes) u.0 in
    good_element e
    ∙ both (is_pyx_name name && are_good [] attributes) (list_all is_good nodes)
    (both (is_pyx_name name) (are_good [] attributes) v.0 (rising_good attributes [] None refl t.0 v.1))
    (all_good below s.1 u.1)

pub proper_good : (node : Node) → node_is_normal node ≡ true → is_named node ≡ true → is_good node ≡ true
proper_good = nodes_induction ProperNode (λ text _ _. good_text text) proper_element

pub spells_proper : (limit : ℕ) (e : Element) → node_is_normal (element_node e) ≡ true → is_named (element_node e) ≡ true → depth (element_node e) ≤ limit → Spells limit (node_lines (element_node e)) (Put e ∷ [])
spells_proper limit e normal named deep =
    subst (λ v. Spells limit (node_lines (element_node e)) (Put v ∷ [])) (whole_normal_stays e normal)
    (spells_put limit e (proper_good (element_node e) normal named) deep)
