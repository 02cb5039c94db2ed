-- What lines spell is proper.
use Rattle.std.proofs.Common.{◌≡◌, ℕ, ◌&&◌, ◌||◌, ◌==◌, not, Bool, true, false, List, [], ◌∷◌, ◌++◌, Option, Some, None, map, length, if◌then◌else◌, refl, ap, sym, ◌∙◌, subst, Result, Ok, Err, IfOk}
use Rattle.std.specs.List.{list_all}
use Rattle.std.specs.Option.{option_map}
use Rattle.std.proofs.lemmas.Bool.{and_from}
use lib.Pointwise.{bytes_decides}
use Rattle.ncq_base.proofs.Tests.{both_true}
use Rattle.ncq_base.specs.Names.{is_pyx_name, is_space}
use Rattle.ncq_base.specs.Escapes.{unescaped}
use Rattle.ncq_tree.specs.declared.model.Attribute.{Attribute}
use Rattle.ncq_tree.specs.declared.model.Node.{Node}
use Rattle.ncq_tree.specs.declared.model.Node.TheVariants.{Element as element_node, Text as text_node, Text, Element'}
use Rattle.ncq_tree.specs.declared.model.Element.{Element}
use Rattle.ncq_tree.specs.Normal.{has_name, are_distinct, node_is_distinct, not_before, insert_by_name, sorted_onto, text_nodes, trimmed, tidy_behind, normal_of, whole_normal, normal, text_is_distinct, element_is_distinct}
use Rattle.ncq_tree.specs.Nodes.{by_nodes_text}
use Rattle.ncq_tree.proofs.NormalLaws.{normal_of_text, normal_of_element}
use Rattle.ncq_tree.proofs.NormalMade.{whole_made, element_distinct, normal_made}
use Rattle.ncq_tree.proofs.Inductions.{nodes_induction}
use Rattle.ncq_pyx.specs.declared.turns.Turn.{Turn}
use Rattle.ncq_pyx.specs.declared.turns.Turn.TheVariants.{Nothing, Begin, Give, Say, Finish, Erase}
use Rattle.ncq_pyx.specs.declared.item.Item.{Item}
use Rattle.ncq_pyx.specs.declared.error.PyxError.{PyxError}
use Rattle.ncq_pyx.specs.LineKinds.{turn_at, begin_of, give_of, say_of, finish_of, erase_of, is_skipped, name_part, value_part, same}
use Rattle.ncq_pyx.specs.Spells.{Place, Rest, Content, outside, turn, fits, one_more, moved, with_attribute, with_node, first_content, other_contents, element_of, put, begun, told, spell_end, spell_turn, spell, Spells, Reads}
use Rattle.ncq_pyx.specs.Canonical.{are_good, is_good, is_named, has_good_name, text_is_named, element_is_named, is_proper}
use Rattle.ncq_pyx.specs.Items.{item_is_proper}
use Rattle.ncq_pyx.proofs.CanonicalLaws.{good_element, good_text}
use Rattle.ncq_pyx.proofs.Proper.{named_element}

-- good elements have distinct attributes
or_left : (s t : Bool) → s ≡ true → (s || t) ≡ true
or_left true t h = refl
or_left false t h = cc

in_more : (given : List Attribute) (a : Attribute) (name : List ℕ) → has_name given name ≡ true → has_name (given ++ a ∷ []) name ≡ true
in_more [] a name h = cc
in_more (b ∷ given) a name h = by (same b.name name) h (in_more given a name)
  where
    by : (t : Bool) → (t || has_name given name) ≡ true → (has_name given name ≡ true → has_name (given ++ a ∷ []) name ≡ true) → (t || has_name (given ++ a ∷ []) name) ≡ true
    by true k f = refl
    by false k f = f k

same_itself : (name : List ℕ) → same name name ≡ true
same_itself name = (bytes_decides name name).1 refl

last_in : (given : List Attribute) (a : Attribute) → has_name (given ++ a ∷ []) a.name ≡ true
last_in [] a = or_left (same a.name a.name) false (same_itself a.name)
last_in (b ∷ given) a = by (same b.name a.name) (last_in given a)
  where
    by : (t : Bool) → has_name (given ++ a ∷ []) a.name ≡ true → (t || has_name (given ++ a ∷ []) a.name) ≡ true
    by true k = refl
    by false k = k

not_given : (attributes given : List Attribute) (name : List ℕ) → are_good given attributes ≡ true → has_name given name ≡ true → has_name attributes name ≡ false
not_given [] given name h k = refl
not_given (a ∷ more) given name h k =
    let t = both_true (is_pyx_name a.name && not (has_name given a.name)) (are_good (given ++ a ∷ []) more) h in
    let u = both_true (is_pyx_name a.name) (not (has_name given a.name)) t.0 in
    by (same a.name name) refl u.1 (not_given more (given ++ a ∷ []) name t.1 (in_more given a name k))
  where
    by : (t : Bool) → same a.name name ≡ t → not (has_name given a.name) ≡ true → has_name more name ≡ false → (t || has_name more name) ≡ false
    by true e new f =
        let is : a.name ≡ name = (bytes_decides a.name name).0 e in
        let w : has_name given a.name ≡ true = ap (has_name given) is ∙ k in
        let v : not (has_name given a.name) ≡ false = ap not w in
        cc
    by false e new f = f

good_distinct : (attributes given : List Attribute) → are_good given attributes ≡ true → are_distinct attributes ≡ true
good_distinct [] given h = refl
good_distinct (a ∷ more) given h =
    let t = both_true (is_pyx_name a.name && not (has_name given a.name)) (are_good (given ++ a ∷ []) more) h in
    and_from _ _ (ap not (not_given more (given ++ a ∷ []) a.name t.1 (last_in given a))) (good_distinct more (given ++ a ∷ []) t.1)

good_named : (attributes given : List Attribute) → are_good given attributes ≡ true → list_all has_good_name attributes ≡ true
good_named [] given h = refl
good_named (a ∷ more) given h =
    let t = both_true (is_pyx_name a.name && not (has_name given a.name)) (are_good (given ++ a ∷ []) more) h in
    and_from _ _ (both_true (is_pyx_name a.name) (not (has_name given a.name)) t.0).0 (good_named more (given ++ a ∷ []) t.1)

-- good nodes are distinct, and the names of their normal forms are good
record Keeps (node : Node) : Type 0 where
  pub distinct : is_good node ≡ true → node_is_distinct node ≡ true
  pub named : is_good node ≡ true → is_named (normal_of node) ≡ true

named_text : (text : List ℕ) → is_named (text_node text) ≡ true
named_text text = by_nodes_text text_is_named element_is_named text

distinct_text : (text : List ℕ) → node_is_distinct (text_node text) ≡ true
distinct_text text = by_nodes_text text_is_distinct element_is_distinct text

named_nodes : (text : List ℕ) → list_all is_named (text_nodes text) ≡ true
named_nodes [] = refl
named_nodes (b ∷ text) = and_from _ _ (named_text (b ∷ text)) refl

all_append : (xs ys : List Node) → list_all is_named xs ≡ true → list_all is_named ys ≡ true → list_all is_named (xs ++ ys) ≡ true
all_append [] ys h k = k
all_append (x ∷ xs) ys h k = let t = both_true (is_named x) (list_all is_named xs) h in and_from _ _ t.0 (all_append xs ys t.1 k)

tidy_named : (nodes : List Node) (text : List ℕ) → list_all is_named nodes ≡ true → list_all is_named (tidy_behind text nodes) ≡ true
tidy_named [] text h = named_nodes (trimmed text)
tidy_named ((Text more) ∷ nodes) text h = tidy_named nodes (text ++ more) (both_true (is_named (text_node more)) (list_all is_named nodes) h).1
tidy_named ((Element' name attributes shape row) ∷ nodes) text h =
    let node = Element' name attributes shape row in
    let t = both_true (is_named node) (list_all is_named nodes) h in
    all_append (text_nodes (trimmed text)) (node ∷ tidy_behind [] nodes) (named_nodes (trimmed text)) (and_from _ _ t.0 (tidy_named nodes [] t.1))

named_insert : (a : Attribute) (done : List Attribute) → has_good_name a ≡ true → list_all has_good_name done ≡ true → list_all has_good_name (insert_by_name a done) ≡ true
named_insert a [] h k = and_from _ _ h refl
named_insert a (b ∷ more) h k =
    let t = both_true (has_good_name b) (list_all has_good_name more) k in
    by (not_before a.name b) (named_insert a more h t.1) t.0
  where
    by : (t : Bool) → list_all has_good_name (insert_by_name a more) ≡ true → has_good_name b ≡ true → list_all has_good_name (if t then b ∷ insert_by_name a more else a ∷ b ∷ more) ≡ true
    by true below first = and_from _ _ first below
    by false below first = and_from _ _ h k

named_onto : (attributes done : List Attribute) → list_all has_good_name attributes ≡ true → list_all has_good_name done ≡ true → list_all has_good_name (sorted_onto done attributes) ≡ true
named_onto [] done h k = k
named_onto (a ∷ more) done h k =
    let t = both_true (has_good_name a) (list_all has_good_name more) h in
    named_onto more (insert_by_name a done) t.1 (named_insert a done t.0 k)

keeps_text : (text : List ℕ) → Keeps (text_node text)
keeps_text text = record {
  distinct = λ _. distinct_text text;
  named = λ _. ap is_named (normal_of_text text) ∙ named_text text;
}

all_distinct : (below : List ((n : Node) × Keeps n)) → list_all is_good (map (λ e. e.0) below) ≡ true → list_all node_is_distinct (map (λ e. e.0) below) ≡ true
all_distinct [] h = refl
all_distinct (node ∷ below) h =
    let t = both_true (is_good node.0) (list_all is_good (map (λ (e : (n : Node) × Keeps n). e.0) below)) h in
    and_from _ _ (node.1.distinct t.0) (all_distinct below t.1)

all_named : (below : List ((n : Node) × Keeps n)) → list_all is_good (map (λ e. e.0) below) ≡ true → list_all is_named (map normal_of (map (λ e. e.0) below)) ≡ true
all_named [] h = refl
all_named (node ∷ below) h =
    let t = both_true (is_good node.0) (list_all is_good (map (λ (e : (n : Node) × Keeps n). e.0) below)) h in
    and_from _ _ (node.1.named t.0) (all_named below t.1)

module _ (name : List ℕ) (attributes : List Attribute) (below : List ((n : Node) × Keeps n)) where
  abbrev whole : Element
  whole = record { name = name; attributes = attributes; children = map (λ (x : (n : Node) × Keeps n). x.0) below }

  whole_distinct : is_good (element_node whole) ≡ true → node_is_distinct (element_node whole) ≡ true
  whole_distinct h =
      let t = both_true (is_pyx_name name && are_good [] attributes) (list_all is_good whole.children) (sym (good_element whole) ∙ h) in
      let u = both_true (is_pyx_name name) (are_good [] attributes) t.0 in
      element_distinct whole ∙ and_from _ _ (good_distinct attributes [] u.1) (all_distinct below t.1)

  whole_named : is_good (element_node whole) ≡ true → is_named (element_node (whole_normal whole)) ≡ true
  whole_named h =
      let t = both_true (is_pyx_name name && are_good [] attributes) (list_all is_good whole.children) (sym (good_element whole) ∙ h) in
      let u = both_true (is_pyx_name name) (are_good [] attributes) t.0 in
      named_element (whole_normal whole)
      ∙ and_from _ _ (and_from _ _ u.0 (named_onto attributes [] (good_named attributes [] u.1) refl))
      (tidy_named (map normal_of whole.children) [] (all_named below t.1))

  keeps_element : Keeps (element_node whole)
  keeps_element = record {
    distinct = whole_distinct;
    named = λ h. ap is_named (normal_of_element whole) ∙ whole_named h;
  }

keeps : (node : Node) → Keeps node
keeps = nodes_induction Keeps keeps_text keeps_element

-- the put of a good element is proper
good_put : (e : Element) → is_good (element_node e) ≡ true → item_is_proper (put e) ≡ true
good_put e h =
    let k = keeps (element_node e) in
    and_from _ _ (whole_made e (k.distinct h)) (sym (ap is_named (normal_of_element e)) ∙ k.named h)

-- the normal form of good nodes is proper
pub good_proper : (forest : List Node) → list_all is_good forest ≡ true → is_proper (normal forest) ≡ true
good_proper forest h =
    and_from _ _
    (normal_made forest (each node_is_distinct (λ n. (keeps n).distinct) forest h))
    (tidy_named (map normal_of forest) [] (all_made forest h))
  where
    each : (f : Node → Bool) → ((n : Node) → is_good n ≡ true → f n ≡ true) → (nodes : List Node)
        → list_all is_good nodes ≡ true → list_all f nodes ≡ true
    each f give [] k = refl
    each f give (node ∷ nodes) k =
        let t = both_true (is_good node) (list_all is_good nodes) k in
        and_from _ _ (give node t.0) (each f give nodes t.1)

    all_made : (nodes : List Node) → list_all is_good nodes ≡ true
        → list_all is_named (map normal_of nodes) ≡ true
    all_made [] k = refl
    all_made (node ∷ nodes) k =
        let t = both_true (is_good node) (list_all is_good nodes) k in
        and_from _ _ ((keeps node).named t.0) (all_made nodes t.1)

-- what is to come in an open element is good, behind the attributes that were given
abbrev attributes_are_fine : Option (List Attribute) → List Attribute → Bool
attributes_are_fine (Some given) attributes = are_good given attributes
attributes_are_fine None [] = true
attributes_are_fine None (a ∷ more) = false

abbrev is_fine : Option (List Attribute) → Content → Bool
is_fine given content = attributes_are_fine given content.attributes && list_all is_good content.nodes

abbrev are_fine : Option (List Attribute) → List Content → Bool
are_fine given [] = true
are_fine given (content ∷ contents) = is_fine given content && list_all (is_fine None) contents

record Fine (given : Option (List Attribute)) (rest : Rest) : Type 0 where
  pub contents : are_fine given rest.contents ≡ true
  pub items : list_all item_is_proper rest.items ≡ true

-- a line does what is good
abbrev GoodGive : Option (List Attribute) → Attribute → Type 0
GoodGive None a = ⊥
GoodGive (Some given) a = (is_pyx_name a.name && not (has_name given a.name)) ≡ true

abbrev GoodTurn : Option (List Attribute) → Turn → Type 0
GoodTurn given Nothing = Unit {0}
GoodTurn given (Begin name) = is_pyx_name name ≡ true
GoodTurn given (Give a) = GoodGive given a
GoodTurn given (Say text) = Unit {0}
GoodTurn given Finish = Unit {0}
GoodTurn given (Erase key) = Unit {0}

abbrev Good : Option (List Attribute) → Option Turn → Type 0
Good given found = (t : Turn) → found ≡ Some t → GoodTurn given t

good_some : (given : Option (List Attribute)) (t : Turn) → GoodTurn given t → Good given (Some t)
good_some given t good s e = let is : t ≡ s = cc in subst (GoodTurn given) is good

good_none : (given : Option (List Attribute)) → Good given None
good_none given t e = absurd (let w : ⊥ = cc in w)

pick : (given : Option (List Attribute)) (test : Bool) (x y : Option Turn) → Good given x → Good given y → Good given (if test then x else y)
pick given true x y p q = p
pick given false x y p q = q

pick_if : (given : Option (List Attribute)) (test : Bool) (x : Option Turn) → (test ≡ true → Good given x) → Good given (if test then x else None)
pick_if given true x p = p refl
pick_if given false x p = good_none given

begin_good : (given : Option (List Attribute)) (name : List ℕ) → Good given (begin_of name)
begin_good given name = pick_if given (is_pyx_name name) (Some (Begin name)) (λ h. good_some given (Begin name) h)

give_good : (given : Option (List Attribute)) (text : List ℕ) → Good given (give_of given text)
give_good None text = good_none None
give_good (Some given) text =
    let a : Attribute = record { name = name_part text; value = unescaped (value_part text) } in
    pick_if (Some given) (is_pyx_name (name_part text) && not (has_name given (name_part text))) (Some (Give a)) (λ h. good_some (Some given) (Give a) h)

say_good : (given : Option (List Attribute)) (innermost : Option (List ℕ)) (text : List ℕ) → Good given (say_of innermost text)
say_good given None text = pick_if given (list_all is_space text) (Some Nothing) (λ _. good_some given Nothing tt)
say_good given (Some name) text = good_some given (Say text) tt

finish_good : (given : Option (List Attribute)) (innermost : Option (List ℕ)) (text : List ℕ) → Good given (finish_of innermost text)
finish_good given None text = good_none given
finish_good given (Some name) text = pick_if given (same name text) (Some Finish) (λ _. good_some given Finish tt)

erase_good : (given : Option (List Attribute)) (innermost : Option (List ℕ)) (text : List ℕ) → Good given (erase_of innermost text)
erase_good given None text = good_some given (Erase (unescaped text)) tt
erase_good given (Some name) text = good_none given

turn_good : (innermost : Option (List ℕ)) (given : Option (List Attribute)) (line : List ℕ) → Good given (turn_at innermost given line)
turn_good innermost given [] = good_some given Nothing tt
turn_good innermost given (b ∷ text) =
    pick given (is_skipped b) _ _ (good_some given Nothing tt)
    (pick given (b == 40) _ _ (begin_good given text)
    (pick given (b == 65) _ _ (give_good given text)
    (pick given (b == 45) _ _ (say_good given innermost (unescaped text))
    (pick given (b == 41) _ _ (finish_good given innermost text)
    (pick given (b == 33) _ _ (erase_good given innermost text) (good_none given))))))

-- what is to come from a line on is good, if what is to come behind it is
none_fine : (given : Option (List Attribute)) (attributes : List Attribute) → attributes_are_fine None attributes ≡ true → attributes_are_fine given attributes ≡ true
none_fine None attributes h = h
none_fine (Some given) [] h = refl
none_fine (Some given) (a ∷ more) h = cc

closed_fine : (contents : List Content) → are_fine None contents ≡ true → list_all (is_fine None) contents ≡ true
closed_fine [] h = refl
closed_fine (content ∷ contents) h = h

others_fine : (given : Option (List Attribute)) (contents : List Content) → are_fine given contents ≡ true → list_all (is_fine None) (other_contents contents) ≡ true
others_fine given [] h = refl
others_fine given (content ∷ contents) h = (both_true (is_fine given content) (list_all (is_fine None) contents) h).1

first_fine : (contents : List Content) → are_fine (Some []) contents ≡ true → is_fine (Some []) (first_content contents) ≡ true
first_fine [] h = refl
first_fine (content ∷ contents) h = (both_true (is_fine (Some []) content) (list_all (is_fine None) contents) h).0

with_node_fine : (given : Option (List Attribute)) (node : Node) (contents : List Content) → is_good node ≡ true → list_all (is_fine None) contents ≡ true → are_fine given (with_node node contents) ≡ true
with_node_fine given node [] good h = refl
with_node_fine given node (content ∷ contents) good h =
    let t = both_true (is_fine None content) (list_all (is_fine None) contents) h in
    let u = both_true (attributes_are_fine None content.attributes) (list_all is_good content.nodes) t.0 in
    and_from _ _ (and_from _ _ (none_fine given content.attributes u.0) (and_from _ _ good u.1)) t.1

with_attribute_fine : (given : List Attribute) (a : Attribute) (contents : List Content) → (is_pyx_name a.name && not (has_name given a.name)) ≡ true
    → are_fine (Some (given ++ a ∷ [])) contents ≡ true → are_fine (Some given) (with_attribute a contents) ≡ true
with_attribute_fine given a [] good h = refl
with_attribute_fine given a (content ∷ contents) good h =
    let t = both_true (is_fine (Some (given ++ a ∷ [])) content) (list_all (is_fine None) contents) h in
    let u = both_true (are_good (given ++ a ∷ []) content.attributes) (list_all is_good content.nodes) t.0 in
    and_from _ _ (and_from _ _ (and_from _ _ good u.0) u.1) t.1

element_good : (name : List ℕ) (contents : List Content) → is_pyx_name name ≡ true → are_fine (Some []) contents ≡ true → is_good (element_node (element_of name (first_content contents))) ≡ true
element_good name contents h fine =
    let content = first_content contents in
    let t = both_true (are_good [] content.attributes) (list_all is_good content.nodes) (first_fine contents fine) in
    good_element (element_of name content) ∙ and_from _ _ (and_from _ _ h t.0) t.1

begun_fine : (given : Option (List Attribute)) (names : List (List ℕ)) (name : List ℕ) (rest : Rest) → is_pyx_name name ≡ true → Fine (Some []) rest → Fine given (begun names name rest)
begun_fine given [] name rest h fine = record {
  contents = refl;
  items = and_from _ _ (good_put (element_of name (first_content rest.contents)) (element_good name rest.contents h fine.contents)) fine.items;
}
begun_fine given (outer ∷ names) name rest h fine = record {
  contents = with_node_fine given (element_node (element_of name (first_content rest.contents))) (other_contents rest.contents)
      (element_good name rest.contents h fine.contents) (others_fine (Some []) rest.contents fine.contents);
  items = fine.items;
}

give_fine : (given : Option (List Attribute)) (a : Attribute) (rest : Rest) → GoodGive given a → Fine (one_more given a) rest → are_fine given (with_attribute a rest.contents) ≡ true
give_fine None a rest good fine = absurd good
give_fine (Some given) a rest good fine = with_attribute_fine given a rest.contents good fine.contents

told_fine : (found : Turn) (place : Place) (rest : Rest) → GoodTurn place.given found → Fine (moved found place).given rest → Fine place.given (told found place rest)
told_fine Nothing place rest good fine = fine
told_fine (Begin name) place rest good fine = begun_fine place.given place.open_names name rest good fine
told_fine (Give a) place rest good fine = record { contents = give_fine place.given a rest good fine; items = fine.items }
told_fine (Say text) place rest good fine = record {
  contents = with_node_fine place.given (text_node text) rest.contents (good_text text) (closed_fine rest.contents fine.contents);
  items = fine.items;
}
told_fine Finish place rest good fine = record {
  contents = and_from _ _ (and_from _ _ (none_fine place.given [] refl) refl) (closed_fine rest.contents fine.contents);
  items = fine.items;
}
told_fine (Erase key) place rest good fine = record { contents = fine.contents; items = and_from _ _ refl fine.items }

end_fine : (given : Option (List Attribute)) (names : List (List ℕ)) (rest : Rest) → spell_end names ≡ Some rest → Fine given rest
end_fine given [] rest e =
    let is : record { contents = []; items = [] } ≡ rest = cc in
    subst (Fine given) is (record { contents = refl; items = refl })
end_fine given (name ∷ names) rest e = absurd (let w : ⊥ = cc in w)

map_fine : (given : Option (List Attribute)) (f : Rest → Rest) (more : Option Rest) (rest : Rest) → option_map f more ≡ Some rest → ((r : Rest) → more ≡ Some r → Fine given (f r)) → Fine given rest
map_fine given f None rest e h = absurd (let w : ⊥ = cc in w)
map_fine given f (Some r) rest e h = let is : f r ≡ rest = cc in subst (Fine given) is (h r refl)

turn_fine : (limit : ℕ) (more : Place → Option Rest) (place : Place) (found : Option Turn) (rest : Rest) → Good place.given found
    → ((p : Place) (r : Rest) → more p ≡ Some r → Fine p.given r) → spell_turn limit more place found ≡ Some rest → Fine place.given rest
turn_fine limit more place None rest good h e = absurd (let w : ⊥ = cc in w)
turn_fine limit more place (Some found) rest good h e = by (fits limit (length place.open_names) found) e
  where
    by : (t : Bool) → (if t then option_map (told found place) (more (moved found place)) else None) ≡ Some rest → Fine place.given rest
    by true k = map_fine place.given (told found place) (more (moved found place)) rest k (λ r is. told_fine found place r (good found refl) (h (moved found place) r is))
    by false k = absurd (let w : ⊥ = cc in w)

spell_fine : (limit : ℕ) (lines : List (List ℕ)) (place : Place) (rest : Rest) → spell limit lines place ≡ Some rest → Fine place.given rest
spell_fine limit [] place rest e = end_fine place.given place.open_names rest e
spell_fine limit (line ∷ lines) place rest e =
    turn_fine limit (λ p. spell limit lines p) place (turn place line) rest (turn_good _ place.given line) (λ p r is. spell_fine limit lines p r is) e

items_proper : (found : Option Rest) (items : List Item) → ((r : Rest) → found ≡ Some r → list_all item_is_proper r.items ≡ true) → option_map (λ (r : Rest). r.items) found ≡ Some items → list_all item_is_proper items ≡ true
items_proper None items h e = absurd (let w : ⊥ = cc in w)
items_proper (Some r) items h e = let is : r.items ≡ items = cc in subst (λ v. list_all item_is_proper v ≡ true) is (h r refl)

-- each element that the lines put is proper
pub spelled_proper : (limit : ℕ) (lines : List (List ℕ)) (items : List Item) → Spells limit lines items → list_all item_is_proper items ≡ true
spelled_proper limit lines items e = items_proper (spell limit lines outside) items (λ r is. (spell_fine limit lines outside r is).items) e

pub answer_proper : (limit : ℕ) (lines : List (List ℕ)) (answer : Result (List Item) PyxError) → Reads limit lines answer → IfOk answer (λ items. list_all item_is_proper items ≡ true)
answer_proper limit lines (Ok items) h = spelled_proper limit lines items h
answer_proper limit lines (Err why) h = tt
