-- What the normal form makes is normal.
use Rattle.std.proofs.Common.{◌≡◌, ◌&&◌, ◌||◌, ◌+◌, ◌-◌, ◌<◌, ◌≤◌, nat_eq, nat_lt, not, ℕ, Bool, true, false, if◌then◌else◌, Option, Some, None, List, [], ◌∷◌, ◌++◌, map, length, take, drop, reverse, get_or, refl, ap, sym, ◌∙◌, subst, arith}
use Rattle.std.specs.List.{list_all, prefix_len, suffix_len}
use Rattle.std.specs.Ordering.{nat_cmp, is_lt, ordering_reverse}
use Rattle.std.specs.declared.cmp.Ordering.{Ordering}
use Rattle.std.specs.declared.cmp.Ordering.TheVariants.{Less, Equal, Greater}
use Rattle.std.specs.Cmp.Lexicographic.{slice_cmp}
use Rattle.std.proofs.lemmas.Cmp.{nat_list_cmp_total}
use Rattle.std.proofs.lemmas.Bool.{and_from}
use Rattle.std.proofs.lemmas.Map.Lookups.{exact_bytes}
use Rattle.std.proofs.lemmas.List.{get_or-take, get_or-drop, get_or-reverse, length-take-le, length-drop, length-reverse}
use Rattle.std.proofs.lemmas.List.Sums.{prefix_len_stops}
use Rattle.std.proofs.lemmas.Bool.{lt-ltb}
use lib.Pointwise.{pointwise, bytes_decides}
use Rattle.ncq_base.proofs.Tests.{both_true}
use Rattle.ncq_base.specs.Names.{is_space}
use Rattle.ncq_tree.specs.declared.model.Attribute.{Attribute}
use Rattle.ncq_tree.specs.declared.model.Node.{Node}
use Rattle.ncq_tree.specs.declared.model.Node.TheVariants.{Text, Element, Element'}
use Rattle.ncq_tree.specs.declared.model.Element as one
use Rattle.ncq_tree.specs.Nodes.{by_nodes_element}
use Rattle.ncq_tree.specs.Normal.{is_trim, is_text, trimmed, text_nodes, tidy, tidy_behind, are_apart, are_apart_behind, normal, normal_of, node_is_normal, is_normal, is_before, are_rising, are_rising_behind, not_before, insert_by_name, sorted_onto, sorted, whole_normal, has_name, are_distinct, node_is_distinct, text_is_distinct, element_is_distinct}
use Rattle.ncq_tree.proofs.NormalLaws.{normal_text, element_normal, normal_of_text, normal_of_element, seconds}
use Rattle.ncq_tree.proofs.NormalAgain.{not_true}
use Rattle.ncq_tree.proofs.Inductions.{nodes_induction}

false_not : (b : Bool) → b ≡ false → not b ≡ true
false_not b h = ap not h

or_false : (s t : Bool) → s ≡ false → t ≡ false → (s || t) ≡ false
or_false true t h k = cc
or_false false t h k = k

both_false : (s t : Bool) → (s || t) ≡ false → (s ≡ false) × (t ≡ false)
both_false true t h = cc
both_false false t h = (refl, h)

-- trimmed texts
some_true : (n : ℕ) → 0 < n → nat_lt 0 n ≡ true
some_true n h = lt-ltb 0 n h

first_kept : (text : List ℕ) (k : ℕ) → 0 < k → k ≤ length (drop (prefix_len is_space text) text) → is_space (get_or (take k (drop (prefix_len is_space text) text)) 0 0) ≡ false
first_kept text k some le =
    let p = prefix_len is_space text in
    let l = length-drop p text in
    let e : p + 0 ≡ p = omega arith in
    ap is_space (get_or-take k (drop p text) 0 0 some ∙ get_or-drop p text 0 0 ∙ ap (λ j. get_or text j 0) e)
    ∙ prefix_len_stops is_space text 0 (omega arith)

last_kept : (front : List ℕ) (k : ℕ) → k ≡ length front - suffix_len is_space front → 0 < k → is_space (get_or (take k front) (k - 1) 0) ≡ false
last_kept front k is some =
    let s = suffix_len is_space front in
    let r = length-reverse front in
    let e : length front - 1 - s ≡ k - 1 = omega arith in
    ap is_space (get_or-take k front (k - 1) 0 (omega arith) ∙ sym (ap (λ j. get_or front j 0) e) ∙ sym (get_or-reverse front s 0 (omega arith)))
    ∙ prefix_len_stops is_space (reverse front) 0 (omega arith)

trimmed_is : (text : List ℕ) → 0 < length (trimmed text) → is_trim (trimmed text) ≡ true
trimmed_is text some =
    let front = drop (prefix_len is_space text) text in
    let k = length front - suffix_len is_space front in
    let len : length (take k front) ≡ k = length-take-le k front (omega arith) in
    and_from _ _
    (and_from _ _ (some_true _ some) (false_not _ (first_kept text k (omega (arith, len, some)) (omega arith))))
    (false_not _ (subst (λ j. is_space (get_or (take k front) (j - 1) 0) ≡ false) (sym len) (last_kept front k refl (omega (arith, len, some)))))

-- tidy nodes
nodes_normal : (text : List ℕ) → (0 < length text → is_trim text ≡ true) → list_all node_is_normal (text_nodes text) ≡ true
nodes_normal [] h = refl
nodes_normal (b ∷ text) h = and_from _ _ (normal_text (b ∷ text) ∙ h (omega arith)) refl

alone : (text : List ℕ) → are_apart (text_nodes text) ≡ true
alone [] = refl
alone (b ∷ text) = refl

before_element : (text : List ℕ) (node : Node) (nodes : List Node) → is_text node ≡ false → are_apart (text_nodes text ++ node ∷ nodes) ≡ are_apart_behind false nodes
before_element [] node nodes h = ap (λ b. not (false && b) && are_apart_behind b nodes) h
before_element (b ∷ text) node nodes h = ap (λ b. not (true && b) && are_apart_behind b nodes) h

all_append : (xs ys : List Node) → list_all node_is_normal xs ≡ true → list_all node_is_normal ys ≡ true → list_all node_is_normal (xs ++ ys) ≡ true
all_append [] ys h k = k
all_append (x ∷ xs) ys h k = let t = both_true (node_is_normal x) (list_all node_is_normal xs) h in and_from _ _ t.0 (all_append xs ys t.1 k)

-- a text, or a normal node
abbrev may_stand : Node → Bool
may_stand node = is_text node || node_is_normal node

tidy_apart : (nodes : List Node) (text : List ℕ) → are_apart (tidy_behind text nodes) ≡ true
tidy_apart [] text = alone (trimmed text)
tidy_apart ((Text more) ∷ nodes) text = tidy_apart nodes (text ++ more)
tidy_apart ((Element' name attributes shape row) ∷ nodes) text =
    before_element (trimmed text) (Element' name attributes shape row) (tidy_behind [] nodes) refl ∙ tidy_apart nodes []

tidy_normal : (nodes : List Node) (text : List ℕ) → list_all may_stand nodes ≡ true → list_all node_is_normal (tidy_behind text nodes) ≡ true
tidy_normal [] text h = nodes_normal (trimmed text) (trimmed_is text)
tidy_normal ((Text more) ∷ nodes) text h = tidy_normal nodes (text ++ more) h
tidy_normal ((Element' name attributes shape row) ∷ nodes) text h =
    let node = Element' name attributes shape row in
    let t = both_true (node_is_normal node) (list_all may_stand nodes) h in
    all_append (text_nodes (trimmed text)) (node ∷ tidy_behind [] nodes)
    (nodes_normal (trimmed text) (trimmed_is text))
    (and_from _ _ t.0 (tidy_normal nodes [] t.1))

tidy_is : (nodes : List Node) → list_all may_stand nodes ≡ true → is_normal (tidy nodes) ≡ true
tidy_is nodes h = and_from _ _ (tidy_apart nodes []) (tidy_normal nodes [] h)

-- sorted attributes
abbrev same : List ℕ → List ℕ → Bool
same = pointwise nat_eq

comes_before : (a b : List ℕ) (o : Ordering) → slice_cmp nat_cmp a b ≡ o → not (is_lt o) ≡ true → same b a ≡ false → is_lt (slice_cmp nat_cmp b a) ≡ true
comes_before a b Less e h other = cc
comes_before a b Equal e h other =
    let t : same b a ≡ true = (bytes_decides b a).1 (sym (exact_bytes a b e)) in
    cc
comes_before a b Greater e h other = ap is_lt (nat_list_cmp_total.antisymm b a ∙ ap ordering_reverse e)

less_of : (a b : List ℕ) → not (is_lt (slice_cmp nat_cmp a b)) ≡ false → is_lt (slice_cmp nat_cmp a b) ≡ true
less_of a b h = by (is_lt (slice_cmp nat_cmp a b)) h
  where
    by : (t : Bool) → not t ≡ false → t ≡ true
    by true k = refl
    by false k = cc

insert_rising : (last : Option (List ℕ)) (a : Attribute) (done : List Attribute) → is_before last a.name ≡ true → are_rising_behind last done ≡ true → has_name done a.name ≡ false → are_rising_behind last (insert_by_name a done) ≡ true
insert_rising last a [] first rising other = and_from _ _ first refl
insert_rising last a (b ∷ more) first rising other =
    let t = both_true (is_before last b.name) (are_rising_behind (Some b.name) more) rising in
    let o = both_false (same b.name a.name) (has_name more a.name) other in
    by (not_before a.name b) refl t o.0 (λ before. insert_rising (Some b.name) a more before t.1 o.1)
  where
    by : (test : Bool) → not_before a.name b ≡ test
        → (is_before last b.name ≡ true) × (are_rising_behind (Some b.name) more ≡ true)
        → same b.name a.name ≡ false
        → (is_lt (slice_cmp nat_cmp b.name a.name) ≡ true → are_rising_behind (Some b.name) (insert_by_name a more) ≡ true)
        → are_rising_behind last (if test then b ∷ insert_by_name a more else a ∷ b ∷ more) ≡ true
    by true e t other behind = and_from _ _ t.0 (behind (comes_before a.name b.name (slice_cmp nat_cmp a.name b.name) refl e other))
    by false e t other behind = and_from _ _ first (and_from _ _ (less_of a.name b.name e) t.1)

same_flip : (a b : List ℕ) → same a b ≡ false → same b a ≡ false
same_flip a b h = by (same b a) refl
  where
    by : (t : Bool) → same b a ≡ t → t ≡ false
    by true e = let w : same a b ≡ true = (bytes_decides a b).1 (sym ((bytes_decides b a).0 e)) in cc
    by false e = refl

insert_other : (a : Attribute) (done : List Attribute) (name : List ℕ) → same a.name name ≡ false → has_name done name ≡ false → has_name (insert_by_name a done) name ≡ false
insert_other a [] name h other = or_false _ _ h refl
insert_other a (b ∷ more) name h other =
    let o = both_false (same b.name name) (has_name more name) other in
    by (not_before a.name b) o (insert_other a more name h o.1)
  where
    by : (test : Bool) → (same b.name name ≡ false) × (has_name more name ≡ false) → has_name (insert_by_name a more) name ≡ false → has_name (if test then b ∷ insert_by_name a more else a ∷ b ∷ more) name ≡ false
    by true o behind = or_false _ _ o.0 behind
    by false o behind = or_false _ _ h (or_false _ _ o.0 o.1)

-- none of the attributes has a name of those that are done
abbrev are_new : List Attribute → List Attribute → Type 0
are_new done [] = Unit {0}
are_new done (a ∷ more) = (has_name done a.name ≡ false) × are_new done more

new_to_none : (attributes : List Attribute) → are_new [] attributes
new_to_none [] = tt
new_to_none (a ∷ more) = (refl, new_to_none more)

still_new : (a : Attribute) (done more : List Attribute) → has_name more a.name ≡ false → are_new done more → are_new (insert_by_name a done) more
still_new a done [] h new = tt
still_new a done (b ∷ more) h new =
    let o = both_false (same b.name a.name) (has_name more a.name) h in
    (insert_other a done b.name (same_flip b.name a.name o.0) new.0, still_new a done more o.1 new.1)

onto_rising : (attributes done : List Attribute) → are_rising done ≡ true → are_distinct attributes ≡ true → are_new done attributes → are_rising (sorted_onto done attributes) ≡ true
onto_rising [] done rising distinct new = rising
onto_rising (a ∷ more) done rising distinct new =
    let d = both_true (not (has_name more a.name)) (are_distinct more) distinct in
    onto_rising more (insert_by_name a done) (insert_rising None a done refl rising new.0) d.1 (still_new a done more (not_true _ d.0) new.1)

sorted_rising : (attributes : List Attribute) → are_distinct attributes ≡ true → are_rising (sorted attributes) ≡ true
sorted_rising attributes h = onto_rising attributes [] refl h (new_to_none attributes)

-- every node
pub element_distinct : (e : one.Element) → node_is_distinct (Element e) ≡ (are_distinct e.attributes && list_all node_is_distinct e.children)
element_distinct e =
    by_nodes_element text_is_distinct element_is_distinct e
    ∙ ap (λ v. are_distinct e.attributes && v) (seconds node_is_distinct e.children)

abbrev Made : Node → Type 0
Made node = node_is_distinct node ≡ true → may_stand (normal_of node) ≡ true

made_text : (text : List ℕ) → Made (Text text)
made_text text h = ap may_stand (normal_of_text text)

all_made : (below : List ((n : Node) × Made n)) → list_all node_is_distinct (map (λ e. e.0) below) ≡ true → list_all may_stand (map normal_of (map (λ e. e.0) below)) ≡ true
all_made [] h = refl
all_made (node ∷ below) h =
    let t = both_true (node_is_distinct node.0) (list_all node_is_distinct (map (λ (e : (n : Node) × Made n). e.0) below)) h in
    and_from _ _ (node.1 t.0) (all_made below t.1)

forest_made : (below : List ((n : Node) × Made n)) → list_all node_is_distinct (map (λ e. e.0) below) ≡ true → is_normal (normal (map (λ e. e.0) below)) ≡ true
forest_made below h = tidy_is (map normal_of (map (λ (e : (n : Node) × Made n). e.0) below)) (all_made below h)

or_true : (b c : Bool) → c ≡ true → (b || c) ≡ true
or_true true c h = refl
or_true false c h = h

made_element : (name : List ℕ) (attributes : List Attribute) (below : List ((n : Node) × Made n)) → Made (Element (record { name = name; attributes = attributes; children = map (λ e. e.0) below }))
made_element name attributes below h =
    let e : one.Element = record { name = name; attributes = attributes; children = map (λ (x : (n : Node) × Made n). x.0) below } in
    let t = both_true (are_distinct attributes) (list_all node_is_distinct e.children) (sym (element_distinct e) ∙ h) in
    ap may_stand (normal_of_element e)
    ∙ or_true (is_text (Element (whole_normal e))) (node_is_normal (Element (whole_normal e)))
    (element_normal (whole_normal e) ∙ and_from _ _ (sorted_rising attributes t.0) (forest_made below t.1))

made : (node : Node) → Made node
made = nodes_induction Made made_text made_element

known : List Node → List ((n : Node) × Made n)
known [] = []
known (node ∷ nodes) = (node, made node) ∷ known nodes

known_are : (nodes : List Node) → map (λ (e : (n : Node) × Made n). e.0) (known nodes) ≡ nodes
unfolding known
known_are [] = refl
known_are (node ∷ nodes) = ap (λ v. node ∷ v) (known_are nodes)

-- the normal form of a forest is normal, where no tag has two attributes of one name
pub normal_made : (forest : List Node) → list_all node_is_distinct forest ≡ true → is_normal (normal forest) ≡ true
normal_made forest h = subst (λ v. list_all node_is_distinct v ≡ true → is_normal (normal v) ≡ true) (known_are forest) (forest_made (known forest)) h

-- the normal form of an element is normal, where no element in it has two attributes of one name
pub whole_made : (e : one.Element) → node_is_distinct (Element e) ≡ true → node_is_normal (Element (whole_normal e)) ≡ true
whole_made e h =
    let t = both_true (are_distinct e.attributes) (list_all node_is_distinct e.children) (sym (element_distinct e) ∙ h) in
    element_normal (whole_normal e) ∙ and_from _ _ (sorted_rising e.attributes t.0) (normal_made e.children t.1)
