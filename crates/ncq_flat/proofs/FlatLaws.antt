-- The canonical lines of a proper element are read as that element.
use Rattle.std.proofs.Common.{subst, ◌≡◌, ℕ, ◌+◌, ◌≤◌, ◌-◌, ◌&&◌, ◌==◌, not, nat_lt, Bool, true, false, List, [], ◌∷◌, ◌++◌, Ok, length, map, take, drop, append_assoc, refl, ap, sym, ◌∙◌, arith, length-append}
use Rattle.std.specs.Prelude.{All}
use Rattle.std.specs.List.{list_all}
use Rattle.std.proofs.Math.Seq.{take-length}
use Rattle.std.proofs.lemmas.Bool.{and_from}
use Rattle.std.proofs.lemmas.Bool.Decides.{nat_tests}
use Rattle.std.proofs.lemmas.List.Elements.{All-nil, All-cons}
use Rattle.ncq_base.proofs.Tests.{both_true}
use Rattle.ncq_base.proofs.LineLaws.{lines_in-text_of, lines_in-cut, lines_in-clean}
use Rattle.ncq_base.specs.Lines.{is_feed, IsClean, lines_in, text_of}
use Rattle.ncq_base.specs.Escapes.{escaped, escaped_byte}
use Rattle.ncq_base.specs.Names.{is_pyx_name, is_pyx_name_byte}
use Rattle.ncq_tree.specs.declared.model.Attribute.{Attribute}
use Rattle.ncq_tree.specs.declared.model.Node.{Node}
use Rattle.ncq_tree.specs.declared.model.Node.TheVariants.{Element as element_node, Text as text_node}
use Rattle.ncq_tree.specs.declared.model.Element.{Element}
use Rattle.ncq_tree.specs.Nodes.{by_nodes_element, by_nodes_text}
use Rattle.ncq_tree.specs.Normal.{node_is_normal, has_name}
use Rattle.ncq_tree.proofs.Inductions.{nodes_induction}
use Rattle.ncq_tree.proofs.NormalLaws.{other_seconds}
use Rattle.ncq_pyx.specs.declared.item.Item.TheVariants.{Put}
use Rattle.ncq_pyx.specs.Spells.{Spells, Gives}
use Rattle.ncq_pyx.specs.Faults.{block_of}
use Rattle.ncq_pyx.specs.Canonical.{node_lines, attribute_line, canonical, bytes_of_lines, are_good, is_good, is_named, has_good_name, depth, greatest, text_depth, element_depth}
use Rattle.ncq_pyx.proofs.LineLaws.{lines_text, lines_element}
use Rattle.ncq_pyx.proofs.CanonicalLaws.{good_element}
use Rattle.ncq_pyx.proofs.Proper.{proper_good, spells_proper, named_element}
use Rattle.ncq_pyx.proofs.FaultLaws.{block_reads}
use Rattle.ncq_pyx.proofs.Exactly.{one_answer}
use Rattle.ncq_flat.specs.Flat.{IsCanonical, element_in, element_of_lines, put_in}

-- no line feed
abbrev is_plain : ℕ → Bool
is_plain b = not (b == 10)

abbrev is_line : List ℕ → Bool
is_line line = list_all is_plain line

all_both : {X : Type 0} (p : X → Bool) (xs ys : List X) → list_all p xs ≡ true → list_all p ys ≡ true → list_all p (xs ++ ys) ≡ true
all_both p [] ys h k = k
all_both p (x ∷ xs) ys h k = let t = both_true (p x) (list_all p xs) h in and_from _ _ t.0 (all_both p xs ys t.1 k)

escaped_is_plain : (b : ℕ) → is_line (escaped_byte b) ≡ true
escaped_is_plain b = grind (arith, nat_tests)

escaped_is_line : (text : List ℕ) → is_line (escaped text) ≡ true
escaped_is_line [] = refl
escaped_is_line (b ∷ text) = all_both is_plain (escaped_byte b) (escaped text) (escaped_is_plain b) (escaped_is_line text)

name_is_plain : (b : ℕ) → is_pyx_name_byte b ≡ true → is_plain b ≡ true
name_is_plain b h = grind (arith, nat_tests)

bytes_are_line : (name : List ℕ) → list_all is_pyx_name_byte name ≡ true → is_line name ≡ true
bytes_are_line [] h = refl
bytes_are_line (b ∷ name) h = let t = both_true (is_pyx_name_byte b) (list_all is_pyx_name_byte name) h in and_from _ _ (name_is_plain b t.0) (bytes_are_line name t.1)

name_is_line : (name : List ℕ) → is_pyx_name name ≡ true → is_line name ≡ true
name_is_line name h = bytes_are_line name (both_true (nat_lt 0 (length name)) (list_all is_pyx_name_byte name) h).1

attributes_are_lines : (attributes given : List Attribute) → are_good given attributes ≡ true → list_all is_line (map attribute_line attributes) ≡ true
attributes_are_lines [] given h = refl
attributes_are_lines (a ∷ more) given h =
    let t = both_true (is_pyx_name a.name && not (has_name given a.name)) (are_good (given ++ a ∷ []) more) h in
    let u = both_true (is_pyx_name a.name) (not (has_name given a.name)) t.0 in
    and_from _ _ (all_both is_plain a.name (32 ∷ escaped a.value) (name_is_line a.name u.0) (escaped_is_line a.value)) (attributes_are_lines more (given ++ a ∷ []) t.1)

abbrev AreLines : Node → Type 0
AreLines node = is_good node ≡ true → list_all is_line (node_lines node) ≡ true

text_is_line : (text : List ℕ) → AreLines (text_node text)
text_is_line text h = ap (list_all is_line) (lines_text text) ∙ and_from _ _ (escaped_is_line text) refl

all_are_lines : (below : List ((n : Node) × AreLines n)) → list_all is_good (map (λ e. e.0) below) ≡ true → list_all is_line (canonical (map (λ e. e.0) below)) ≡ true
all_are_lines [] h = refl
all_are_lines (node ∷ below) h =
    let nodes = map (λ (e : (n : Node) × AreLines n). e.0) below in
    let t = both_true (is_good node.0) (list_all is_good nodes) h in
    all_both is_line (node_lines node.0) (canonical nodes) (node.1 t.0) (all_are_lines below t.1)

element_is_lines : (name : List ℕ) (attributes : List Attribute) (below : List ((n : Node) × AreLines n)) → AreLines (element_node (record { name = name; attributes = attributes; children = map (λ e. e.0) below }))
element_is_lines name attributes below h =
    let nodes = map (λ (x : (n : Node) × AreLines n). x.0) below in
    let e : Element = record { name = name; attributes = attributes; children = nodes } in
    let t = both_true (is_pyx_name name && are_good [] attributes) (list_all is_good nodes) (sym (good_element e) ∙ h) in
    let u = both_true (is_pyx_name name) (are_good [] attributes) t.0 in
    let closing = and_from _ _ (name_is_line name u.0) refl in
    ap (list_all is_line) (lines_element e)
    ∙ and_from _ _ (name_is_line name u.0)
    (all_both is_line (map attribute_line attributes) (canonical nodes ++ (41 ∷ name) ∷ []) (attributes_are_lines attributes [] u.1)
    (all_both is_line (canonical nodes) ((41 ∷ name) ∷ []) (all_are_lines below t.1) closing))

are_lines : (node : Node) → AreLines node
are_lines = nodes_induction AreLines text_is_line element_is_lines

abbrev Clean : ℕ → Type 0
Clean b = is_feed b ≡ false

plain_clean : (b : ℕ) → is_plain b ≡ true → Clean b
plain_clean b h = grind (arith, nat_tests)

clean_line : (line : List ℕ) → is_line line ≡ true → IsClean line
clean_line [] h = All-nil Clean
clean_line (b ∷ line) h =
    let t = both_true (is_plain b) (is_line line) h in
    All-cons Clean b line (plain_clean b t.0) (clean_line line t.1)

clean_lines : (lines : List (List ℕ)) → list_all is_line lines ≡ true → All IsClean lines
clean_lines [] h = All-nil IsClean
clean_lines (line ∷ lines) h =
    let t = both_true (is_line line) (list_all is_line lines) h in
    All-cons IsClean line lines (clean_line line t.0) (clean_lines lines t.1)

-- elements are nested no deeper than they have lines, of which each has two
depth_text : (text : List ℕ) → depth (text_node text) ≡ 0
depth_text text = by_nodes_text text_depth element_depth text

depth_element : (e : Element) → depth (element_node e) ≡ greatest (map depth e.children) + 1
depth_element e = by_nodes_element text_depth element_depth e ∙ ap (λ v. greatest v + 1) (other_seconds depth e.children)

abbrev IsShallow : Node → Type 0
IsShallow node = depth node + depth node ≤ length (node_lines node)

text_shallow : (text : List ℕ) → IsShallow (text_node text)
text_shallow text = let d = depth_text text in omega (arith, d)

all_shallow : (below : List ((n : Node) × IsShallow n)) → greatest (map depth (map (λ e. e.0) below)) + greatest (map depth (map (λ e. e.0) below)) ≤ length (canonical (map (λ e. e.0) below))
all_shallow [] = omega arith
all_shallow (node ∷ below) =
    let nodes = map (λ (e : (n : Node) × IsShallow n). e.0) below in
    let here : depth node.0 + depth node.0 ≤ length (node_lines node.0) = node.1 in
    let there : greatest (map depth nodes) + greatest (map depth nodes) ≤ length (canonical nodes) = all_shallow below in
    let both : length (node_lines node.0 ++ canonical nodes) ≡ length (node_lines node.0) + length (canonical nodes) = length-append (node_lines node.0) (canonical nodes) in
    omega (arith, here, there, both)

element_shallow : (name : List ℕ) (attributes : List Attribute) (below : List ((n : Node) × IsShallow n)) → IsShallow (element_node (record { name = name; attributes = attributes; children = map (λ e. e.0) below }))
element_shallow name attributes below =
    let nodes = map (λ (x : (n : Node) × IsShallow n). x.0) below in
    let e : Element = record { name = name; attributes = attributes; children = nodes } in
    let d = depth_element e in
    let there : greatest (map depth nodes) + greatest (map depth nodes) ≤ length (canonical nodes) = all_shallow below in
    let lines : length (node_lines (element_node e)) ≡ length (map attribute_line attributes ++ (canonical nodes ++ (41 ∷ name) ∷ [])) + 1 = ap length (lines_element e) ∙ (let w : ℕ = 0 in omega arith) in
    let one = length-append (map attribute_line attributes) (canonical nodes ++ (41 ∷ name) ∷ []) in
    let two = length-append (canonical nodes) ((41 ∷ name) ∷ []) in
    omega (arith, d, there, lines, one, two)

pub shallow : (node : Node) → IsShallow node
shallow = nodes_induction IsShallow text_shallow element_shallow

-- what the one answer of a block is, where its lines spell one put
put_read : (limit : ℕ) (lines : List (List ℕ)) (e : Element) → Spells limit lines (Put e ∷ []) → put_in (block_of limit lines) ≡ e
put_read limit lines e spells =
    let r = block_reads limit lines in
    let is : Gives (Ok (Put e ∷ [])) (block_of limit lines) = one_answer limit lines (Ok (Put e ∷ [])) (block_of limit lines) spells r.0 r.1 in
    ap put_in (sym is)

pub element_read : (e : Element) → node_is_normal (element_node e) ≡ true → is_named (element_node e) ≡ true → element_in (bytes_of_lines (node_lines (element_node e))) ≡ e
element_read e normal named =
    let lines = node_lines (element_node e) in
    let clean = clean_lines lines (are_lines (element_node e) (proper_good (element_node e) normal named)) in
    ap element_of_lines (lines_in-text_of lines clean)
    ∙ put_read (length lines) lines e (spells_proper (length lines) e normal named (omega (arith, shallow (element_node e))))

-- the first line of a text is one line
pub one_line : (text a b more rest : List ℕ) → IsClean a → IsClean b → text ≡ a ++ 10 ∷ more → text ≡ b ++ 10 ∷ rest → a ≡ b
one_line text a b more rest clean other is was =
    let e : a ∷ lines_in more ≡ b ∷ lines_in rest = sym (lines_in-cut a more clean) ∙ ap lines_in (sym is ∙ was) ∙ lines_in-cut b rest other in
    cc

-- what the text of an element begins with
pub name_first : (e : Element) → bytes_of_lines (node_lines (element_node e)) ≡ (40 ∷ e.name) ++ 10 ∷ bytes_of_lines (map attribute_line e.attributes ++ (canonical e.children ++ (41 ∷ e.name) ∷ []))
name_first e = ap bytes_of_lines (lines_element e) ∙ append_assoc (40 ∷ e.name) (10 ∷ []) (bytes_of_lines (map attribute_line e.attributes ++ (canonical e.children ++ (41 ∷ e.name) ∷ [])))

pub name_clean : (e : Element) → is_named (element_node e) ≡ true → IsClean (40 ∷ e.name)
name_clean e named =
    let u = both_true (is_pyx_name e.name && list_all has_good_name e.attributes) (list_all is_named e.children) (sym (named_element e) ∙ named) in
    let v = both_true (is_pyx_name e.name) (list_all has_good_name e.attributes) u.0 in
    clean_line (40 ∷ e.name) (and_from _ _ refl (name_is_line e.name v.0))

-- a text with a line feed is not clean
pub not_clean : (text front rest : List ℕ) → IsClean text → IsClean front → text ≡ front ++ 10 ∷ rest → ⊥
not_clean text front rest clean other is =
    let e : [] ≡ front ∷ lines_in rest = sym (lines_in-clean text clean) ∙ ap lines_in is ∙ lines_in-cut front rest other in
    cc

pub behind_first : (mark : ℕ) (name : List ℕ) → take (length (mark ∷ name) - 1) (drop 1 (mark ∷ name)) ≡ name
behind_first mark name = let w : length (mark ∷ name) - 1 ≡ length name = omega arith in ap (λ n. take n name) w ∙ take-length name

-- the lines of a proper element are read as that element, and are canonical
pub text_canonical : (text : List ℕ) (e : Element) → text ≡ bytes_of_lines (node_lines (element_node e)) → node_is_normal (element_node e) ≡ true → is_named (element_node e) ≡ true
    → (element_in text ≡ e) × IsCanonical text
text_canonical text e is normal named =
    let r : element_in text ≡ e = ap element_in is ∙ element_read e normal named in (
      r,
      record {
        lines = ap (λ (x : Element). bytes_of_lines (node_lines (element_node x))) r ∙ sym is;
        normal = ap (λ (x : Element). node_is_normal (element_node x)) r ∙ normal;
        named = ap (λ (x : Element). is_named (element_node x)) r ∙ named;
      },
    )

-- checked lines, in one text, are read as their element
pub text_read : (text : List ℕ) (e : Element) → text ≡ text_of (lines_in text) → lines_in text ≡ node_lines (element_node e) → node_is_normal (element_node e) ≡ true → is_named (element_node e) ≡ true
    → (element_in text ≡ e) × IsCanonical text
text_read text e whole lines normal named = text_canonical text e (whole ∙ ap text_of lines) normal named

-- what is known of a text that is canonical, and of the element that it is seen as
module _ (text : List ℕ) (e : Element) (canonical : IsCanonical text) (is : element_in text ≡ e) where
  pub flat_lines : text ≡ bytes_of_lines (node_lines (element_node e))
  flat_lines = sym canonical.lines ∙ ap (λ (x : Element). bytes_of_lines (node_lines (element_node x))) is

  pub flat_normal : node_is_normal (element_node e) ≡ true
  flat_normal = ap (λ (x : Element). node_is_normal (element_node x)) (sym is) ∙ canonical.normal

  pub flat_named : is_named (element_node e) ≡ true
  flat_named = ap (λ (x : Element). is_named (element_node x)) (sym is) ∙ canonical.named

-- the lines of the text of a proper element
pub lines_again : (e : Element) → node_is_normal (element_node e) ≡ true → is_named (element_node e) ≡ true → lines_in (bytes_of_lines (node_lines (element_node e))) ≡ node_lines (element_node e)
lines_again e normal named =
    let lines = node_lines (element_node e) in
    lines_in-text_of lines (clean_lines lines (are_lines (element_node e) (proper_good (element_node e) normal named)))
