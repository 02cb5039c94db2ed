-- The rows of a shape in a proper element have proper values, and so have the rows of an expression over proper elements.
use Rattle.std.proofs.Common.{◌≡◌, ℕ, ◌&&◌, Bool, true, false, List, [], ◌∷◌, ◌++◌, map, refl, sym, ap, ◌∙◌}
use Rattle.std.specs.Prelude.{cond, if◌then◌else◌}
use Rattle.std.specs.List.{filter, flat_map, list_all}
use Rattle.std.specs.Str.{bytes_eq}
use Rattle.std.proofs.lemmas.Bool.{and_from}
use Rattle.std.proofs.lemmas.List.Folds.{list_all-append}
use Rattle.ncq_base.proofs.Tests.{both_true}
use Rattle.ncq_tree.specs.declared.model.Attribute.{Attribute}
use Rattle.ncq_tree.specs.declared.model.Element.{Element}
use Rattle.ncq_tree.specs.declared.model.Node.{Node}
use Rattle.ncq_tree.specs.declared.model.Node.TheVariants.{Element as element_node}
use Rattle.ncq_tree.specs.Normal.{are_apart, are_rising, is_normal, node_is_normal}
use Rattle.ncq_tree.proofs.Inductions.{nodes_induction}
use Rattle.ncq_tree.proofs.NormalLaws.{element_normal}
use Rattle.ncq_pyx.specs.Canonical.{has_good_name, is_named, is_proper}
use Rattle.ncq_pyx.proofs.Proper.{named_element}
use Rattle.ncq_base.specs.Names.{is_pyx_name}
use Rattle.ncq_row.specs.declared.shape.Shape.{Shape}
use Rattle.ncq_row.specs.declared.shape.ShapeContent.{ShapeContent}
use Rattle.ncq_row.specs.declared.shape.ShapeContent.TheVariants.{Parts, Value as OneValue}
use Rattle.ncq_row.specs.declared.shape.ShapeSuffix.{ShapeSuffix}
use Rattle.ncq_row.specs.declared.shape.ShapeSuffix.TheVariants.{Plain, Element as WholeElement}
use Rattle.ncq_row.specs.declared.shape.ShapeSuffix.TheVariants.{Content}
use Rattle.ncq_row.specs.declared.value.Value.TheVariants.{Text}
use Rattle.ncq_path.specs.declared.path.Path.{Path}
use Rattle.ncq_path.specs.Deciding.{in_path}
use Rattle.ncq_row.specs.Embeddings.{Row, Rows, paired, one_of_each}
use Rattle.ncq_row.specs.Reached.{Place, under, places, leads_to, reached, reached_from}
use Rattle.ncq_row.specs.Embeddings.{attribute_rows, suffix_rows, rows_at, content_rows}
use Rattle.ncq_row.specs.Embeddings.{rows_among, rows_from, rows_of}
use Rattle.ncq_row.proofs.ReachLaws.{places_text, places_element}
use Rattle.ncq_row.proofs.CallerLemmas.{rows_of_shape, rows_of_value}
use Rattle.ncq_row.proofs.CallerLemmas.{rows_of_parts}
use Rattle.ncq_row.proofs.Inductions.{shapes_induction}
use Rattle.ncq_row.specs.declared.pair.Pair.{Pair}
use Rattle.ncq_plan.specs.declared.expr.Expr.{Expr}
use Rattle.ncq_plan.specs.Meets.{has_atom, is_within, agree}
use Rattle.ncq_plan.specs.Exprs.{World, followed_by, join_rows, rows_in}
use Rattle.ncq_plan.proofs.CallerLemmas.{expr_induction, rows_scan, rows_equal, rows_range, rows_join}
use Rattle.ncq_construct.specs.Proper.{element_is_proper, row_is_proper, rows_are_proper}

-- rows joined to rows

rows_append : (xs ys : Rows) → rows_are_proper xs ≡ true → rows_are_proper ys ≡ true
    → rows_are_proper (xs ++ ys) ≡ true
rows_append xs ys h k = list_all-append row_is_proper xs ys ∙ and_from _ _ h k

row_append : (x y : Row) → row_is_proper x ≡ true → row_is_proper y ≡ true
    → row_is_proper (x ++ y) ≡ true
row_append x y h k = list_all-append _ x y ∙ and_from _ _ h k

rows_behind : (row : Row) (rows : Rows) → row_is_proper row ≡ true → rows_are_proper rows ≡ true
    → rows_are_proper (map (λ other. row ++ other) rows) ≡ true
rows_behind row [] h k = refl
rows_behind row (other ∷ rows) h k =
    let t = both_true (row_is_proper other) (rows_are_proper rows) k in
    and_from _ _ (row_append row other h t.0) (rows_behind row rows h t.1)

rows_paired : (lefts rights : Rows) → rows_are_proper lefts ≡ true → rows_are_proper rights ≡ true
    → rows_are_proper (paired lefts rights) ≡ true
rows_paired [] rights h k = refl
rows_paired (left ∷ lefts) rights h k =
    let t = both_true (row_is_proper left) (rows_are_proper lefts) h in
    rows_append (map (λ right. left ++ right) rights) (paired lefts rights)
    (rows_behind left rights t.0 k) (rows_paired lefts rights t.1 k)

rows_each : {A : Type 0} (f : A → Rows) → (xs : List A)
    → list_all (λ x. rows_are_proper (f x)) xs ≡ true
    → rows_are_proper (one_of_each (map f xs)) ≡ true
rows_each f [] h = refl
rows_each f (x ∷ xs) h =
    let t = both_true (rows_are_proper (f x)) (list_all (λ x. rows_are_proper (f x)) xs) h in
    rows_paired (f x) (one_of_each (map f xs)) t.0 (rows_each f xs t.1)

rows_from_each : {A : Type 0} (f : A → Rows) (good : A → Bool)
    → ((x : A) → good x ≡ true → rows_are_proper (f x) ≡ true) → (xs : List A)
    → list_all good xs ≡ true → rows_are_proper (flat_map f xs) ≡ true
rows_from_each f good each [] h = refl
rows_from_each f good each (x ∷ xs) h =
    let t = both_true (good x) (list_all good xs) h in
    rows_append (f x) (flat_map f xs) (each x t.0) (rows_from_each f good each xs t.1)

always : {A : Type 0} (p : A → Bool) → ((x : A) → p x ≡ true) → (xs : List A) → list_all p xs ≡ true
always p h [] = refl
always p h (x ∷ xs) = and_from _ _ (h x) (always p h xs)

-- elements that are reached

abbrev node_is_proper : Node → Bool
node_is_proper node = node_is_normal node && is_named node

-- children

children_proper : (e : Element) → element_is_proper e ≡ true → is_proper e.children ≡ true
children_proper e h =
    let t = both_true (node_is_normal (element_node e)) (is_named (element_node e)) h in
    let n = both_true (are_rising e.attributes) (is_normal e.children) (sym (element_normal e) ∙ t.0) in
    let m = both_true (is_pyx_name e.name && list_all has_good_name e.attributes)
    (list_all is_named e.children) (sym (named_element e) ∙ t.1) in
    and_from _ _ n.1 m.1

both_all : (nodes : List Node) → list_all node_is_normal nodes ≡ true
    → list_all is_named nodes ≡ true → list_all node_is_proper nodes ≡ true
both_all [] h k = refl
both_all (node ∷ nodes) h k =
    let t = both_true (node_is_normal node) (list_all node_is_normal nodes) h in
    let u = both_true (is_named node) (list_all is_named nodes) k in
    and_from _ _ (and_from _ _ t.0 u.0) (both_all nodes t.1 u.1)

each_child_proper : (e : Element) → element_is_proper e ≡ true
    → list_all node_is_proper e.children ≡ true
each_child_proper e h =
    let t = both_true (is_normal e.children) (list_all is_named e.children) (children_proper e h) in
    both_all e.children
    (both_true (are_apart e.children) (list_all node_is_normal e.children) t.0).1 t.1

itself_proper : (e : Element) → element_is_proper e ≡ true → is_proper (element_node e ∷ []) ≡ true
itself_proper e h =
    let t = both_true (node_is_normal (element_node e)) (is_named (element_node e)) h in
    and_from _ _ (and_from _ _ refl (and_from _ _ t.0 refl)) (and_from _ _ t.1 refl)

-- elements that are reached

abbrev place_is_proper : Place → Bool
place_is_proper place = element_is_proper place.1

under_proper : (name : List ℕ) (ps : List Place) → list_all place_is_proper (map (under name) ps)
    ≡ list_all place_is_proper ps
under_proper name [] = refl
under_proper name (p ∷ ps) = ap (λ (b : Bool). place_is_proper p && b) (under_proper name ps)

abbrev PlacesProper : Node → Type 0
PlacesProper node = node_is_proper node ≡ true → list_all place_is_proper (places node) ≡ true

below_proper : (below : List ((n : Node) × PlacesProper n))
    → list_all node_is_proper (map (λ b. b.0) below) ≡ true
    → list_all place_is_proper (flat_map places (map (λ (b : (n : Node) × PlacesProper n). b.0) below)) ≡ true
below_proper [] h = refl
below_proper (b ∷ below) h =
    let t = both_true (node_is_proper b.0) (list_all node_is_proper (map (λ c. c.0) below)) h in
    list_all-append place_is_proper (places b.0) (flat_map places (map (λ c. c.0) below))
    ∙ and_from _ _ (b.1 t.0) (below_proper below t.1)

-- each place in a proper node is proper
places_proper : (node : Node) → PlacesProper node
places_proper =
    nodes_induction PlacesProper (λ text h. ap (list_all place_is_proper) (places_text text))
    (λ name attributes below h.
    let e : Element = record {
      name = name;
      attributes = attributes;
      children = map (λ b. b.0) below;
    } in
    ap (list_all place_is_proper) (places_element e)
    ∙ and_from _ _ h (under_proper name (flat_map places e.children) ∙ below_proper below (each_child_proper e h)))

all_places_proper : (nodes : List Node) → list_all node_is_proper nodes ≡ true
    → list_all place_is_proper (flat_map places nodes) ≡ true
all_places_proper [] h = refl
all_places_proper (node ∷ nodes) h =
    let t = both_true (node_is_proper node) (list_all node_is_proper nodes) h in
    list_all-append place_is_proper (places node) (flat_map places nodes)
    ∙ and_from _ _ (places_proper node t.0) (all_places_proper nodes t.1)

kept_proper : (test : Place → Bool) (ps : List Place) → list_all place_is_proper ps ≡ true
    → list_all element_is_proper (map (λ p. p.1) (filter test ps)) ≡ true
kept_proper test [] h = refl
kept_proper test (p ∷ ps) h =
    let t = both_true (place_is_proper p) (list_all place_is_proper ps) h in
    by_test (test p) (filter test ps) t.0 (kept_proper test ps t.1)
  where
    by_test : (b : Bool) (kept : List Place) → place_is_proper p ≡ true
        → list_all element_is_proper (map (λ q. q.1) kept) ≡ true
        → list_all element_is_proper (map (λ (q : Place). q.1) (cond b (p ∷ kept) kept)) ≡ true
    by_test true kept h k = and_from _ _ h k
    by_test false kept h k = k

reached_proper : (path : Path) (nodes : List Node) → list_all node_is_proper nodes ≡ true
    → list_all element_is_proper (reached path nodes) ≡ true
reached_proper path nodes h =
    kept_proper (leads_to path []) (flat_map places nodes) (all_places_proper nodes h)

reached_from_proper : (path : Path) (e : Element) → element_is_proper e ≡ true
    → list_all element_is_proper (reached_from path e) ≡ true
reached_from_proper path e h =
    list_all-append element_is_proper (if in_path path [] then e ∷ [] else []) (reached path e.children)
    ∙ and_from _ _ (by_test (in_path path [])) (reached_proper path e.children (each_child_proper e h))
  where
    by_test : (b : Bool) → list_all element_is_proper (if b then e ∷ [] else []) ≡ true
    by_test true = and_from _ _ h refl
    by_test false = refl

-- rows of a shape

attribute_proper : (attributes : List Attribute) (name : List ℕ)
    → rows_are_proper (attribute_rows attributes name) ≡ true
attribute_proper [] name = refl
attribute_proper (a ∷ more) name =
    by_name (bytes_eq a.name name) (attribute_rows more name) (attribute_proper more name)
  where
    by_name : (b : Bool) (rows : Rows) → rows_are_proper rows ≡ true
        → rows_are_proper (if b then (Text a.value ∷ []) ∷ [] else rows) ≡ true
    by_name true rows h = refl
    by_name false rows h = h

suffix_proper : (suffix : ShapeSuffix) (e : Element) → element_is_proper e ≡ true
    → rows_are_proper (suffix_rows suffix e) ≡ true
suffix_proper Plain e h = refl
suffix_proper WholeElement e h = and_from _ _ (and_from _ _ (itself_proper e h) refl) refl
suffix_proper Content e h = and_from _ _ (and_from _ _ (children_proper e h) refl) refl

abbrev ShapeProper : Shape → Type 0
ShapeProper s = (e : Element) → element_is_proper e ≡ true → rows_are_proper (rows_at s e) ≡ true

abbrev ContentProper : ShapeContent → Type 0
ContentProper c = (e : Element) → element_is_proper e ≡ true
    → rows_are_proper (content_rows c e) ≡ true

among_proper : (s : Shape) → ShapeProper s → (nodes : List Node)
    → list_all node_is_proper nodes ≡ true → rows_are_proper (rows_among s nodes) ≡ true
among_proper s h nodes k =
    rows_from_each (rows_at s) element_is_proper h (reached s.tag nodes) (reached_proper s.tag nodes k)

from_proper : (s : Shape) → ShapeProper s → (e : Element) → element_is_proper e ≡ true
    → rows_are_proper (rows_from s e) ≡ true
from_proper s h e k =
    rows_from_each (rows_at s) element_is_proper h (reached_from s.tag e) (reached_from_proper s.tag e k)

whole_proper : (s : Shape) → ContentProper s.content → ShapeProper s
whole_proper s h e k =
    ap rows_are_proper (rows_of_shape s e)
    ∙ rows_paired (one_of_each (map (attribute_rows e.attributes) s.attributes))
    (paired (content_rows s.content e) (suffix_rows s.suffix e))
    (rows_each (attribute_rows e.attributes) s.attributes
    (always (λ name. rows_are_proper (attribute_rows e.attributes name))
    (attribute_proper e.attributes) s.attributes))
    (rows_paired (content_rows s.content e) (suffix_rows s.suffix e) (h e k)
    (suffix_proper s.suffix e k))

parts_proper : (below : List ((s : Shape) × ShapeProper s))
    → ContentProper (Parts (map (λ b. b.0) below))
parts_proper below e k =
    ap rows_are_proper (rows_of_parts (map (λ b. b.0) below) e)
    ∙ rows_each (λ (p : Shape). rows_from p e) (map (λ b. b.0) below) (each below)
  where
    each : (parts : List ((s : Shape) × ShapeProper s))
        → list_all (λ (p : Shape). rows_are_proper (rows_from p e)) (map (λ b. b.0) parts)
        ≡ true
    each [] = refl
    each (p ∷ parts) =
        and_from _ _ (from_proper p.0 p.1 e k) (each parts)

value_proper : ContentProper OneValue
value_proper e k =
    ap rows_are_proper (rows_of_value e)
    ∙ and_from _ _ (and_from _ _ (children_proper e k) refl) refl

shape_proper : (s : Shape) → ShapeProper s
shape_proper = shapes_induction ShapeProper ContentProper whole_proper parts_proper value_proper

pub shape_rows_are_proper : (s : Shape) (e : Element) → element_is_proper e ≡ true
    → rows_are_proper (rows_of s e) ≡ true
shape_rows_are_proper s e h =
    among_proper s (shape_proper s) (element_node e ∷ []) (and_from _ _ h refl)

-- rows of an expression

pub rows_filter : (test : Row → Bool) (rows : Rows) → rows_are_proper rows ≡ true
    → rows_are_proper (filter test rows) ≡ true
rows_filter test [] h = refl
rows_filter test (row ∷ rows) h =
    let t = both_true (row_is_proper row) (rows_are_proper rows) h in
    by_test (test row) (filter test rows) t.0 (rows_filter test rows t.1)
  where
    by_test : (b : Bool) (kept : Rows) → row_is_proper row ≡ true → rows_are_proper kept ≡ true
        → rows_are_proper (cond b (row ∷ kept) kept) ≡ true
    by_test true kept h k = and_from _ _ h k
    by_test false kept h k = k

rows_joined : (pairs : List Pair) (lefts rights : Rows) → rows_are_proper lefts ≡ true
    → rows_are_proper rights ≡ true → rows_are_proper (join_rows pairs lefts rights) ≡ true
rows_joined pairs [] rights h k = refl
rows_joined pairs (row ∷ lefts) rights h k =
    let t = both_true (row_is_proper row) (rows_are_proper lefts) h in
    rows_append (followed_by pairs rights row) (join_rows pairs lefts rights)
    (rows_behind row (filter (agree pairs row) rights) t.0
    (rows_filter (agree pairs row) rights k))
    (rows_joined pairs lefts rights t.1 k)

pub expr_rows_are_proper : (world : World)
    → ((source : List ℕ) → list_all element_is_proper (world source) ≡ true) → (expr : Expr)
    → rows_are_proper (rows_in expr world) ≡ true
expr_rows_are_proper world proper =
    expr_induction (λ expr. rows_are_proper (rows_in expr world) ≡ true)
    (λ source shape. ap rows_are_proper (rows_scan world source shape)
    ∙ rows_from_each (λ e. rows_of shape e) element_is_proper (shape_rows_are_proper shape) (world source)
    (proper source))
    (λ input slot constant h. ap rows_are_proper (rows_equal world input slot constant)
    ∙ rows_filter (has_atom slot constant) (rows_in input world) h)
    (λ input slot interval h. ap rows_are_proper (rows_range world input slot interval)
    ∙ rows_filter (is_within slot interval) (rows_in input world) h)
    (λ left right pairs h k. ap rows_are_proper (rows_join world left right pairs)
    ∙ rows_joined pairs (rows_in left world) (rows_in right world) h k)
