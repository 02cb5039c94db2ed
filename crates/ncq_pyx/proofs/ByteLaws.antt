-- Equal bytes are equal lines, since no canonical line has a line feed.
use Rattle.std.proofs.Common.{◌≡◌, ℕ, ◌&&◌, ◌==◌, not, nat_lt, Bool, true, List, [], ◌∷◌, ◌++◌, length, map, refl, ap, sym, ◌∙◌, append_assoc, arith}
use Rattle.std.specs.List.{list_all}
use Rattle.std.proofs.lemmas.Bool.{and_from}
use Rattle.std.proofs.lemmas.Bool.Decides.{nat_tests}
use Rattle.ncq_base.proofs.Tests.{both_true}
use Rattle.ncq_base.specs.Escapes.{escaped, escaped_byte}
use Rattle.ncq_base.specs.Names.{is_pyx_name, is_pyx_name_byte}
use Rattle.ncq_tree.specs.declared.model.Attribute.{Attribute}
use Rattle.ncq_tree.specs.declared.model.Node.{Node}
use Rattle.ncq_tree.specs.declared.model.Node.TheVariants.{Element as element_node, Text as text_node}
use Rattle.ncq_tree.specs.declared.model.Element.{Element}
use Rattle.ncq_tree.specs.Normal.{is_normal, node_is_normal, are_apart, has_name}
use Rattle.ncq_tree.proofs.Inductions.{nodes_induction}
use Rattle.ncq_pyx.specs.Canonical.{node_lines, attribute_line, canonical, bytes_of_lines, pyx, are_good, is_good, is_named, is_proper}
use Rattle.ncq_pyx.proofs.LineLaws.{lines_text, lines_element}
use Rattle.ncq_pyx.proofs.CanonicalLaws.{good_element, one_forest}
use Rattle.ncq_pyx.proofs.Proper.{proper_good}

-- no line feed
abbrev is_plain : ℕ → Bool
is_plain b = not (b == 10)

abbrev is_line : List ℕ → Bool
is_line line = list_all is_plain line

all_both : {X : Type 0} (p : X → Bool) (xs ys : List X) → list_all p xs ≡ true → list_all p ys ≡ true → list_all p (xs ++ ys) ≡ true
all_both p [] ys h k = k
all_both p (x ∷ xs) ys h k = let t = both_true (p x) (list_all p xs) h in and_from _ _ t.0 (all_both p xs ys t.1 k)

escaped_is_plain : (b : ℕ) → is_line (escaped_byte b) ≡ true
escaped_is_plain b = grind (arith, nat_tests)

escaped_is_line : (text : List ℕ) → is_line (escaped text) ≡ true
escaped_is_line [] = refl
escaped_is_line (b ∷ text) = all_both is_plain (escaped_byte b) (escaped text) (escaped_is_plain b) (escaped_is_line text)

name_is_plain : (b : ℕ) → is_pyx_name_byte b ≡ true → is_plain b ≡ true
name_is_plain b h = grind (arith, nat_tests)

bytes_are_line : (name : List ℕ) → list_all is_pyx_name_byte name ≡ true → is_line name ≡ true
bytes_are_line [] h = refl
bytes_are_line (b ∷ name) h = let t = both_true (is_pyx_name_byte b) (list_all is_pyx_name_byte name) h in and_from _ _ (name_is_plain b t.0) (bytes_are_line name t.1)

name_is_line : (name : List ℕ) → is_pyx_name name ≡ true → is_line name ≡ true
name_is_line name h = bytes_are_line name (both_true (nat_lt 0 (length name)) (list_all is_pyx_name_byte name) h).1

attributes_are_lines : (attributes given : List Attribute) → are_good given attributes ≡ true → list_all is_line (map attribute_line attributes) ≡ true
attributes_are_lines [] given h = refl
attributes_are_lines (a ∷ more) given h =
    let t = both_true (is_pyx_name a.name && not (has_name given a.name)) (are_good (given ++ a ∷ []) more) h in
    let u = both_true (is_pyx_name a.name) (not (has_name given a.name)) t.0 in
    and_from _ _ (all_both is_plain a.name (32 ∷ escaped a.value) (name_is_line a.name u.0) (escaped_is_line a.value)) (attributes_are_lines more (given ++ a ∷ []) t.1)

abbrev AreLines : Node → Type 0
AreLines node = is_good node ≡ true → list_all is_line (node_lines node) ≡ true

text_is_line : (text : List ℕ) → AreLines (text_node text)
text_is_line text h = ap (list_all is_line) (lines_text text) ∙ and_from _ _ (escaped_is_line text) refl

all_are_lines : (below : List ((n : Node) × AreLines n)) → list_all is_good (map (λ e. e.0) below) ≡ true → list_all is_line (canonical (map (λ e. e.0) below)) ≡ true
all_are_lines [] h = refl
all_are_lines (node ∷ below) h =
    let nodes = map (λ (e : (n : Node) × AreLines n). e.0) below in
    let t = both_true (is_good node.0) (list_all is_good nodes) h in
    all_both is_line (node_lines node.0) (canonical nodes) (node.1 t.0) (all_are_lines below t.1)

element_is_lines : (name : List ℕ) (attributes : List Attribute) (below : List ((n : Node) × AreLines n)) → AreLines (element_node (record { name = name; attributes = attributes; children = map (λ e. e.0) below }))
element_is_lines name attributes below h =
    let nodes = map (λ (x : (n : Node) × AreLines n). x.0) below in
    let e : Element = record { name = name; attributes = attributes; children = nodes } in
    let t = both_true (is_pyx_name name && are_good [] attributes) (list_all is_good nodes) (sym (good_element e) ∙ h) in
    let u = both_true (is_pyx_name name) (are_good [] attributes) t.0 in
    let closing = and_from _ _ (name_is_line name u.0) refl in
    ap (list_all is_line) (lines_element e)
    ∙ and_from _ _ (name_is_line name u.0)
    (all_both is_line (map attribute_line attributes) (canonical nodes ++ (41 ∷ name) ∷ []) (attributes_are_lines attributes [] u.1)
    (all_both is_line (canonical nodes) ((41 ∷ name) ∷ []) (all_are_lines below t.1) closing))

are_lines : (node : Node) → AreLines node
are_lines = nodes_induction AreLines text_is_line element_is_lines

forest_is_lines : (forest : List Node) → list_all is_good forest ≡ true → list_all is_line (canonical forest) ≡ true
forest_is_lines [] h = refl
forest_is_lines (node ∷ forest) h =
    let t = both_true (is_good node) (list_all is_good forest) h in
    all_both is_line (node_lines node) (canonical forest) (are_lines node t.0) (forest_is_lines forest t.1)

-- the first line feed parts a line from what is behind it
first_line : (x y more other : List ℕ) → is_line x ≡ true → is_line y ≡ true → x ++ 10 ∷ more ≡ y ++ 10 ∷ other → (x ≡ y) × (more ≡ other)
first_line [] [] more other h k e = (refl, (let w = e in cc))
first_line [] (b ∷ y) more other h k e =
    let t = both_true (is_plain b) (is_line y) k in
    let w : 10 ≡ b = cc in
    let u : is_plain 10 ≡ true = ap is_plain w ∙ t.0 in
    cc
first_line (b ∷ x) [] more other h k e =
    let t = both_true (is_plain b) (is_line x) h in
    let w : 10 ≡ b = cc in
    let u : is_plain 10 ≡ true = ap is_plain w ∙ t.0 in
    cc
first_line (b ∷ x) (d ∷ y) more other h k e =
    let t = both_true (is_plain b) (is_line x) h in
    let u = both_true (is_plain d) (is_line y) k in
    let first : b ≡ d = cc in
    let rest : x ++ 10 ∷ more ≡ y ++ 10 ∷ other = cc in
    let below = first_line x y more other t.1 u.1 rest in
    ((λ i. first i ∷ below.0 i), below.1)

some_bytes : (line : List ℕ) (more : List ℕ) → (line ++ 10 ∷ []) ++ more ≡ line ++ 10 ∷ more
some_bytes line more = append_assoc line (10 ∷ []) more

never_empty : (line : List ℕ) (more : List ℕ) → line ++ 10 ∷ more ≡ [] → ⊥
never_empty [] more h = cc
never_empty (b ∷ line) more h = cc

pub one_lines : (a b : List (List ℕ)) → list_all is_line a ≡ true → list_all is_line b ≡ true → bytes_of_lines a ≡ bytes_of_lines b → a ≡ b
one_lines [] [] h k e = refl
one_lines [] (y ∷ b) h k e = absurd (never_empty y (bytes_of_lines b) (sym (e ∙ some_bytes y (bytes_of_lines b))))
one_lines (x ∷ a) [] h k e = absurd (never_empty x (bytes_of_lines a) (sym (some_bytes x (bytes_of_lines a)) ∙ e))
one_lines (x ∷ a) (y ∷ b) h k e =
    let t = both_true (is_line x) (list_all is_line a) h in
    let u = both_true (is_line y) (list_all is_line b) k in
    let f = first_line x y (bytes_of_lines a) (bytes_of_lines b) t.0 u.0 (sym (some_bytes x (bytes_of_lines a)) ∙ e ∙ some_bytes y (bytes_of_lines b)) in
    let rest = one_lines a b t.1 u.1 f.1 in
    λ i. f.0 i ∷ rest i

-- equal bytes, equal forests
pub one_text : (a b : List Node) → list_all is_good a ≡ true → list_all is_good b ≡ true → pyx a ≡ pyx b → a ≡ b
one_text a b h k e = one_forest a b h k (one_lines (canonical a) (canonical b) (forest_is_lines a h) (forest_is_lines b k) e)

all_proper : (forest : List Node) → list_all node_is_normal forest ≡ true → list_all is_named forest ≡ true → list_all is_good forest ≡ true
all_proper [] h k = refl
all_proper (node ∷ forest) h k =
    let t = both_true (node_is_normal node) (list_all node_is_normal forest) h in
    let u = both_true (is_named node) (list_all is_named forest) k in
    and_from _ _ (proper_good node t.0 u.0) (all_proper forest t.1 u.1)

pub proper_forest : (forest : List Node) → is_proper forest ≡ true → list_all is_good forest ≡ true
proper_forest forest h =
    let t = both_true (is_normal forest) (list_all is_named forest) h in
    let u = both_true (are_apart forest) (list_all node_is_normal forest) t.0 in
    all_proper forest u.1 t.1

pub one_proper : (a b : List Node) → is_proper a ≡ true → is_proper b ≡ true → pyx a ≡ pyx b → a ≡ b
one_proper a b h k e = one_text a b (proper_forest a h) (proper_forest b k) e
