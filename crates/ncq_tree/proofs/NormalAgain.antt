-- What is normal stays as it is.
use Rattle.std.proofs.Common.{◌≡◌, ◌&&◌, ◌+◌, ◌-◌, nat_lt, not, ℕ, Bool, true, false, cond, Option, Some, None, List, [], ◌∷◌, ◌++◌, map, length, take, drop, get_or, refl, ap, sym, ◌∙◌, subst, append_assoc, append-nil, arith}
use Rattle.std.specs.List.{list_all, prefix_len, suffix_len}
use Rattle.std.specs.Ordering.{nat_cmp, is_lt, ordering_reverse}
use Rattle.std.specs.declared.cmp.Ordering.{Ordering}
use Rattle.std.specs.declared.cmp.Ordering.TheVariants.{Less, Equal, Greater}
use Rattle.std.specs.Cmp.Lexicographic.{slice_cmp}
use Rattle.std.proofs.lemmas.Cmp.{nat_list_cmp_total}
use Rattle.std.proofs.lemmas.List.{take_all}
use Rattle.std.proofs.lemmas.List.Sums.{suffix_len_is}
use Rattle.ncq_base.proofs.Tests.{both_true}
use Rattle.ncq_tree.specs.declared.model.Attribute.{Attribute}
use Rattle.ncq_tree.specs.declared.model.Node.{Node}
use Rattle.ncq_tree.specs.declared.model.Node.TheVariants.{Text, Element, Element'}
use Rattle.ncq_tree.specs.declared.model.Element as one
use Rattle.ncq_base.specs.Names.{is_space}
use Rattle.ncq_tree.specs.Normal.{is_trim, trimmed, text_nodes, tidy, tidy_behind, are_apart, are_apart_behind, normal, normal_of, node_is_normal, is_normal, is_before, are_rising, are_rising_behind, not_before, insert_by_name, sorted_onto, sorted, whole_normal}
use Rattle.ncq_tree.proofs.NormalLaws.{normal_text, element_normal, normal_of_text, normal_of_element}
use Rattle.ncq_tree.proofs.Inductions.{nodes_induction}

pub not_true : (b : Bool) → not b ≡ true → b ≡ false
not_true true h = cc
not_true false h = refl

no_front : (text : List ℕ) → is_trim text ≡ true → prefix_len is_space text ≡ 0
no_front [] h = refl
no_front (b ∷ text) h =
    let t = both_true (nat_lt 0 (length (b ∷ text)) && not (is_space b)) (not (is_space (get_or (b ∷ text) (length (b ∷ text) - 1) 0))) h in
    let u = both_true (nat_lt 0 (length (b ∷ text))) (not (is_space b)) t.0 in
    ap (λ v. cond v (1 + prefix_len is_space text) 0) (not_true (is_space b) u.1)

no_end : (text : List ℕ) → is_trim text ≡ true → suffix_len is_space text ≡ 0
no_end text h =
    let t = both_true (nat_lt 0 (length text) && not (is_space (get_or text 0 0))) (not (is_space (get_or text (length text - 1) 0))) h in
    let s = suffix_len_is is_space text (length text) 0 (omega arith) (λ k le lt. absurd (omega arith)) (λ _. not_true (is_space (get_or text (length text - 1) 0)) t.1) in
    omega (arith, s)

trimmed_same : (text : List ℕ) → is_trim text ≡ true → trimmed text ≡ text
trimmed_same text h =
    ap (λ n. let front = drop n text in take (length front - suffix_len is_space front) front) (no_front text h)
    ∙ take_all (length text - suffix_len is_space text) text (omega (arith, no_end text h))

one_text : (text : List ℕ) → is_trim text ≡ true → text_nodes text ≡ Text text ∷ []
one_text [] h = cc
one_text (b ∷ text) h = refl

text_tidy : (text : List ℕ) → is_trim text ≡ true → text_nodes (trimmed text) ≡ Text text ∷ []
text_tidy text h = ap text_nodes (trimmed_same text h) ∙ one_text text h

tidy_both : (nodes : List Node) → list_all node_is_normal nodes ≡ true
    → (are_apart_behind false nodes ≡ true → tidy_behind [] nodes ≡ nodes)
    × ((text : List ℕ) → is_trim text ≡ true → are_apart_behind true nodes ≡ true → tidy_behind text nodes ≡ Text text ∷ nodes)
tidy_both [] h = (λ _. refl, λ text trim _. text_tidy text trim)
tidy_both ((Text u) ∷ nodes) h =
    let t = both_true (node_is_normal (Text u)) (list_all node_is_normal nodes) h in
    (λ apart. (tidy_both nodes t.1).1 u (sym (normal_text u) ∙ t.0) apart, λ text trim apart. (let w : ⊥ = cc in absurd w))
tidy_both ((Element' name attributes shape row) ∷ nodes) h =
    let t = both_true (node_is_normal (Element' name attributes shape row)) (list_all node_is_normal nodes) h in
    let below = tidy_both nodes t.1 in (
      λ apart. ap (λ v. Element' name attributes shape row ∷ v) (below.0 apart),
      λ text trim apart.
          ap (λ v. v ++ Element' name attributes shape row ∷ tidy_behind [] nodes) (text_tidy text trim)
          ∙ ap (λ v. Text text ∷ Element' name attributes shape row ∷ v) (below.0 apart),
    )

-- sorted attributes
name_cmp : List ℕ → List ℕ → Ordering
name_cmp = slice_cmp nat_cmp

less_is : (o : Ordering) → is_lt o ≡ true → o ≡ Less
less_is Less h = refl
less_is Equal h = cc
less_is Greater h = cc

goes_after : (o : Ordering) → ordering_reverse o ≡ Less → not (is_lt o) ≡ true
goes_after Less h = cc
goes_after Equal h = cc
goes_after Greater h = refl

abbrev pub all_below : List ℕ → List Attribute → Type 0
all_below name [] = Unit {0}
all_below name (a ∷ more) = (slice_cmp nat_cmp a.name name ≡ Less) × all_below name more

below_trans : (x y : List ℕ) (done : List Attribute) → all_below x done → slice_cmp nat_cmp x y ≡ Less → all_below y done
below_trans x y [] h lt = tt
below_trans x y (a ∷ done) h lt = (nat_list_cmp_total.trans a.name x y h.0 lt, below_trans x y done h.1 lt)

below_more : (name : List ℕ) (done : List Attribute) (a : Attribute) → all_below name done → slice_cmp nat_cmp a.name name ≡ Less → all_below name (done ++ a ∷ [])
below_more name [] a h lt = (lt, tt)
below_more name (b ∷ done) a h lt = (h.0, below_more name done a h.1 lt)

pub insert_end : (a : Attribute) (done : List Attribute) → all_below a.name done → insert_by_name a done ≡ done ++ a ∷ []
insert_end a [] h = refl
insert_end a (b ∷ done) h =
    let e : not_before a.name b ≡ true = goes_after (slice_cmp nat_cmp a.name b.name) (sym (nat_list_cmp_total.antisymm b.name a.name) ∙ h.0) in
    ap (λ t. cond t (b ∷ insert_by_name a done) (a ∷ b ∷ done)) e ∙ ap (λ v. b ∷ v) (insert_end a done h.1)

-- all that was done stands below what is to come
abbrev pub stands_below : Option (List ℕ) → List Attribute → Type 0
stands_below None done = done ≡ []
stands_below (Some last) done = (y : List ℕ) → slice_cmp nat_cmp last y ≡ Less → all_below y done

pub step_below : (last : Option (List ℕ)) (done : List Attribute) (a : Attribute) → stands_below last done → is_before last a.name ≡ true → all_below a.name done
step_below None done a h t = subst (λ d. all_below a.name d) (sym h) tt
step_below (Some last) done a h t = h a.name (less_is (slice_cmp nat_cmp last a.name) t)

pub next_below : (done : List Attribute) (a : Attribute) → all_below a.name done → stands_below (Some a.name) (done ++ a ∷ [])
next_below done a h = λ y lt. below_more y done a (below_trans a.name y done h lt) lt

sorted_same : (attributes done : List Attribute) (last : Option (List ℕ)) → stands_below last done → are_rising_behind last attributes ≡ true → sorted_onto done attributes ≡ done ++ attributes
sorted_same [] done last h rising = sym (append-nil done)
sorted_same (a ∷ more) done last h rising =
    let t = both_true (is_before last a.name) (are_rising_behind (Some a.name) more) rising in
    let below = step_below last done a h t.0 in
    ap (λ v. sorted_onto v more) (insert_end a done below)
    ∙ sorted_same more (done ++ a ∷ []) (Some a.name) (next_below done a below) t.1
    ∙ append_assoc done (a ∷ []) more

pub sorted_is : (attributes : List Attribute) → are_rising attributes ≡ true → sorted attributes ≡ attributes
sorted_is attributes h = sorted_same attributes [] None refl h

abbrev StaysNode : Node → Type 0
StaysNode node = node_is_normal node ≡ true → normal_of node ≡ node

stays_text : (text : List ℕ) → StaysNode (Text text)
stays_text text h = normal_of_text text

all_stay : (below : List ((n : Node) × StaysNode n)) → list_all node_is_normal (map (λ e. e.0) below) ≡ true → map normal_of (map (λ e. e.0) below) ≡ map (λ e. e.0) below
all_stay [] h = refl
all_stay (node ∷ below) h =
    let t = both_true (node_is_normal node.0) (list_all node_is_normal (map (λ (e : (n : Node) × StaysNode n). e.0) below)) h in
    λ i. node.1 t.0 i ∷ all_stay below t.1 i

forest_stays : (below : List ((n : Node) × StaysNode n)) → is_normal (map (λ e. e.0) below) ≡ true → normal (map (λ e. e.0) below) ≡ map (λ e. e.0) below
forest_stays below h =
    let nodes = map (λ (e : (n : Node) × StaysNode n). e.0) below in
    let t = both_true (are_apart nodes) (list_all node_is_normal nodes) h in
    ap tidy (all_stay below t.1) ∙ (tidy_both nodes t.1).0 t.0

whole_stays : (name : List ℕ) (attributes : List Attribute) (below : List ((n : Node) × StaysNode n)) → (are_rising attributes && is_normal (map (λ e. e.0) below)) ≡ true
    → whole_normal (record { name = name; attributes = attributes; children = map (λ e. e.0) below }) ≡ record { name = name; attributes = attributes; children = map (λ e. e.0) below }
whole_stays name attributes below h =
    let t = both_true (are_rising attributes) (is_normal (map (λ (e : (n : Node) × StaysNode n). e.0) below)) h in
    λ i. record { name = name; attributes = sorted_is attributes t.0 i; children = forest_stays below t.1 i }

stays_element : (name : List ℕ) (attributes : List Attribute) (below : List ((n : Node) × StaysNode n)) → StaysNode (Element (record { name = name; attributes = attributes; children = map (λ e. e.0) below }))
stays_element name attributes below h =
    let e : one.Element = record { name = name; attributes = attributes; children = map (λ (x : (n : Node) × StaysNode n). x.0) below } in
    normal_of_element e ∙ ap Element (whole_stays name attributes below (sym (element_normal e) ∙ h))

pub stays : (node : Node) → node_is_normal node ≡ true → normal_of node ≡ node
stays = nodes_induction StaysNode stays_text stays_element

known : List Node → List ((n : Node) × StaysNode n)
known [] = []
known (node ∷ nodes) = (node, stays node) ∷ known nodes

known_are : (nodes : List Node) → map (λ (e : (n : Node) × StaysNode n). e.0) (known nodes) ≡ nodes
unfolding known
known_are [] = refl
known_are (node ∷ nodes) = ap (λ v. node ∷ v) (known_are nodes)

-- the normal form of a normal forest, and of a normal element
pub normal_stays : (forest : List Node) → is_normal forest ≡ true → normal forest ≡ forest
normal_stays forest h = subst (λ v. is_normal v ≡ true → normal v ≡ v) (known_are forest) (forest_stays (known forest)) h

pub whole_normal_stays : (e : one.Element) → node_is_normal (Element e) ≡ true → whole_normal e ≡ e
whole_normal_stays e h =
    let t = both_true (are_rising e.attributes) (is_normal e.children) (sym (element_normal e) ∙ h) in
    λ i. record { name = e.name; attributes = sorted_is e.attributes t.0 i; children = normal_stays e.children t.1 i }
