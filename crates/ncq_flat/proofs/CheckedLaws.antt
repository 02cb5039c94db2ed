-- Lines that are checked are the canonical lines of a proper element.
use Rattle.std.proofs.Common.{arith, ◌≡◌, ℕ, ◌<◌, length, ◌&&◌, ◌==◌, not, nat_eq, Bool, true, false, List, [], ◌∷◌, ◌++◌, map, Some, None, cond, refl, ap, sym, ◌∙◌, subst, append_assoc, inl, inr, eqb-true, if◌then◌else◌}
use Rattle.std.specs.List.{list_all, position_or_len}
use Rattle.std.proofs.lemmas.Bool.{and_from, cases_Bool}
use Rattle.std.proofs.lemmas.Bool.Decides.{nat_tests}
use Rattle.std.proofs.lemmas.List.Sums.{passes_at_first, split_at_first}
use lib.Pointwise.{pointwise, bytes_decides}
use Rattle.ncq_base.proofs.Tests.{both_true}
use Rattle.ncq_base.specs.Escapes.{is_plain, escaped, escaped_byte}
use Rattle.ncq_base.specs.Names.{is_pyx_name}
use Rattle.ncq_tree.specs.declared.model.Attribute.{Attribute}
use Rattle.ncq_tree.specs.declared.model.Node.{Node}
use Rattle.ncq_tree.specs.declared.model.Node.TheVariants.{Element as element_node, Text as text_node}
use Rattle.ncq_tree.specs.declared.model.Element.{Element}
use Rattle.ncq_tree.specs.Normal.{node_is_normal, are_apart_behind, are_rising_behind, is_before, is_trim}
use Rattle.ncq_tree.proofs.NormalLaws.{element_normal, normal_text}
use Rattle.ncq_pyx.specs.Canonical.{node_lines, attribute_line, canonical, has_good_name, is_named, text_is_named, element_is_named}
use Rattle.ncq_tree.specs.Nodes.{by_nodes_text}
use Rattle.ncq_pyx.proofs.LineLaws.{lines_text, lines_element}
use Rattle.ncq_pyx.proofs.Proper.{named_element}
use Rattle.ncq_pyx.specs.LineKinds.{name_part, value_part}
use Rattle.ncq_flat.specs.Checked.{Place, are_checked, has_blank, is_attribute_at, is_checked, is_said, is_text_at, Takes}
use Rattle.ncq_flat.specs.Checked.Place.{Tag, Child, Text}

-- as in ncq_base/proofs/EscapeLaws
last_of : {A : Type 0} (s t u v : Bool) (a b c d e : A) → (not s && (not t && (not u && not v))) ≡ true → cond s a (cond t b (cond u c (cond v d e))) ≡ e
last_of true t u v a b c d e h = cc
last_of false true u v a b c d e h = cc
last_of false false true v a b c d e h = cc
last_of false false false true a b c d e h = cc
last_of false false false false a b c d e h = refl

plain_byte : (b : ℕ) → is_plain b ≡ true → escaped_byte b ≡ b ∷ []
plain_byte b h = last_of (b == 10) (b == 9) (b == 13) (b == 92) _ _ _ _ _ h

-- a text of plain bytes is written as it stands
plain_escaped : (text : List ℕ) → list_all is_plain text ≡ true → escaped text ≡ text
plain_escaped [] h = refl
plain_escaped (b ∷ more) h =
    let p = both_true (is_plain b) (list_all is_plain more) h in
    λ i. plain_byte b p.0 i ++ plain_escaped more p.1 i

-- an attribute line is a name, a space and a value
parted : (text : List ℕ) → has_blank text ≡ true → text ≡ name_part text ++ 32 ∷ value_part text
parted text some =
    let is_blank : ℕ → Bool = λ b. b == 32 in
    let within : position_or_len is_blank text < length text = grind (arith, some, nat_tests) in
    let space = eqb-true _ 32 (passes_at_first is_blank text 0 within) in
    split_at_first is_blank text 0 within ∙ ap (λ (b : ℕ). name_part text ++ b ∷ value_part text) space

-- the lines of what is to come in the open elements
abbrev coming : List (List ℕ) → List (List Node) → List (List ℕ)
coming [] rest = []
coming (name ∷ names) [] = []
coming (name ∷ names) (nodes ∷ rest) = canonical nodes ++ (41 ∷ name) ∷ coming names rest

record IsGood (text : Bool) (nodes : List Node) : Type 0 where
  apart : are_apart_behind text nodes ≡ true
  normal : list_all node_is_normal nodes ≡ true
  named : list_all is_named nodes ≡ true

abbrev AreGood : List (List ℕ) → Bool → List (List Node) → Type 0
AreGood [] text rest = Unit {0}
AreGood (name ∷ names) text [] = ⊥
AreGood (name ∷ names) text (nodes ∷ rest) = IsGood text nodes × AreGood names false rest

-- the attributes that are to come there
abbrev AreGiven : Place → List Attribute → Type 0
AreGiven (Tag last) attributes = (are_rising_behind last attributes ≡ true) × (list_all has_good_name attributes ≡ true)
AreGiven Child attributes = attributes ≡ []
AreGiven Text attributes = attributes ≡ []

none_given : (place : Place) → AreGiven place []
none_given (Tag last) = (refl, refl)
none_given Child = refl
none_given Text = refl

-- what is to come: attributes of the innermost open element, and nodes of each
record Comes (names : List (List ℕ)) (place : Place) (lines : List (List ℕ)) : Type 0 where
  attributes : List Attribute
  rest : List (List Node)
  spelled : lines ≡ map attribute_line attributes ++ coming names rest
  given : AreGiven place attributes
  good : AreGood names (is_said place) rest

-- where no attributes are to come
only_nodes : (names : List (List ℕ)) (place : Place) (lines : List (List ℕ)) (c : Comes names place lines) → c.attributes ≡ [] → lines ≡ coming names c.rest
only_nodes names place lines c none = c.spelled ∙ ap (λ (a : List Attribute). map attribute_line a ++ coming names c.rest) none

abbrev made : List ℕ → List Attribute → List Node → Element
made word attributes nodes = record { name = word; attributes = attributes; children = nodes }

lines_made : (word : List ℕ) (attributes : List Attribute) (nodes : List Node)
    → node_lines (element_node (made word attributes nodes)) ≡ (40 ∷ word) ∷ (map attribute_line attributes ++ (canonical nodes ++ (41 ∷ word) ∷ []))
lines_made word attributes nodes = lines_element (made word attributes nodes)

normal_made : (word : List ℕ) (attributes : List Attribute) (nodes : List Node) → AreGiven (Tag None) attributes → IsGood false nodes
    → node_is_normal (element_node (made word attributes nodes)) ≡ true
normal_made word attributes nodes given good = element_normal (made word attributes nodes) ∙ and_from _ _ given.0 (and_from _ _ good.apart good.normal)

named_made : (word : List ℕ) (attributes : List Attribute) (nodes : List Node) → is_pyx_name word ≡ true → AreGiven (Tag None) attributes → IsGood false nodes
    → is_named (element_node (made word attributes nodes)) ≡ true
named_made word attributes nodes name given good = named_element (made word attributes nodes) ∙ and_from _ _ (and_from _ _ name given.1) good.named

apart_made : (text : Bool) (word : List ℕ) (attributes : List Attribute) (nodes outer : List Node) → are_apart_behind false outer ≡ true
    → are_apart_behind text (element_node (made word attributes nodes) ∷ outer) ≡ true
apart_made true word attributes nodes outer apart = apart
apart_made false word attributes nodes outer apart = apart

regroup : (attributes nodes outer behind : List (List ℕ)) (line : List ℕ)
    → ((attributes ++ (nodes ++ line ∷ [])) ++ outer) ++ behind ≡ attributes ++ (nodes ++ line ∷ (outer ++ behind))
regroup attributes nodes outer behind line = simp append_assoc

opened : (word name : List ℕ) (names lines : List (List ℕ)) (place : Place) (attributes : List Attribute) (rest : List (List Node))
    → is_pyx_name word ≡ true → lines ≡ map attribute_line attributes ++ coming (word ∷ name ∷ names) rest → AreGiven (Tag None) attributes → AreGood (word ∷ name ∷ names) false rest
    → Comes (name ∷ names) place ((40 ∷ word) ∷ lines)
opened word name names lines place attributes [] named is given good = absurd good
opened word name names lines place attributes (inner ∷ []) named is given good = absurd good.1
opened word name names lines place attributes (inner ∷ outer ∷ more) named is given good =
    let node = element_node (made word attributes inner) in
    let behind = (41 ∷ name) ∷ coming names more in
    record {
      attributes = [];
      rest = (node ∷ outer) ∷ more;
      spelled = ap (λ (l : List (List ℕ)). (40 ∷ word) ∷ l) is
          ∙ sym (ap (λ (l : List (List ℕ)). (l ++ canonical outer) ++ behind) (lines_made word attributes inner)
          ∙ ap (λ (l : List (List ℕ)). (40 ∷ word) ∷ l) (regroup (map attribute_line attributes) (canonical inner) (canonical outer) behind (41 ∷ word)));
      given = none_given place;
      good = (
        record {
          apart = apart_made (is_said place) word attributes inner outer good.1.0.apart;
          normal = and_from _ _ (normal_made word attributes inner given good.0) good.1.0.normal;
          named = and_from _ _ (named_made word attributes inner named given good.0) good.1.0.named;
        },
        good.1.1,
      );
    }

closed : (word name : List ℕ) (names lines : List (List ℕ)) (place : Place) → word ≡ name → Comes names Child lines → Comes (name ∷ names) place ((41 ∷ word) ∷ lines)
closed word name names lines place same c =
    let is = only_nodes names Child lines c c.given in
    record {
      attributes = [];
      rest = [] ∷ c.rest;
      spelled = λ i. (41 ∷ same i) ∷ is i;
      given = none_given place;
      good = (record { apart = refl; normal = refl; named = refl }, c.good);
    }

text_named : (word : List ℕ) → is_named (text_node word) ≡ true
text_named word = by_nodes_text text_is_named element_is_named word

is_false : (b : Bool) → not b ≡ true → b ≡ false
is_false true h = absurd (let w : ⊥ = cc in w)
is_false false h = refl

said : (word name : List ℕ) (names lines : List (List ℕ)) (place : Place) (rest : List (List Node))
    → is_text_at place word ≡ true → lines ≡ coming (name ∷ names) rest → AreGood (name ∷ names) true rest → Comes (name ∷ names) place ((45 ∷ word) ∷ lines)
said word name names lines place [] text is good = absurd good
said word name names lines place (nodes ∷ more) text is good =
    let p = both_true (not (is_said place)) (list_all is_plain word && is_trim word) text in
    let q = both_true (list_all is_plain word) (is_trim word) p.1 in
    let node = text_node word in
    record {
      attributes = [];
      rest = (node ∷ nodes) ∷ more;
      spelled = ap (λ (l : List (List ℕ)). (45 ∷ word) ∷ l) is
          ∙ ap (λ (w : List ℕ). (45 ∷ w) ∷ (canonical nodes ++ (41 ∷ name) ∷ coming names more)) (sym (plain_escaped word q.0))
          ∙ sym (ap (λ (l : List (List ℕ)). (l ++ canonical nodes) ++ (41 ∷ name) ∷ coming names more) (lines_text word));
      given = none_given place;
      good = (
        record {
          apart = subst (λ (t : Bool). are_apart_behind t (node ∷ nodes) ≡ true) (sym (is_false (is_said place) p.0)) good.0.apart;
          normal = and_from _ _ (normal_text word ∙ q.1) good.0.normal;
          named = and_from _ _ (text_named word) good.0.named;
        },
        good.1,
      );
    }

attributed : (word name : List ℕ) (names lines : List (List ℕ)) (place : Place) → is_attribute_at place word ≡ true
    → Comes (name ∷ names) (Tag (Some (name_part word))) lines → Comes (name ∷ names) place ((65 ∷ word) ∷ lines)
attributed word name names lines Child h c = absurd (let w : ⊥ = cc in w)
attributed word name names lines Text h c = absurd (let w : ⊥ = cc in w)
attributed word name names lines (Tag last) h c =
    let t = both_true (has_blank word && is_pyx_name (name_part word)) (is_before last (name_part word) && list_all is_plain (value_part word)) h in
    let p = both_true (has_blank word) (is_pyx_name (name_part word)) t.0 in
    let q = both_true (is_before last (name_part word)) (list_all is_plain (value_part word)) t.1 in
    let a : Attribute = record { name = name_part word; value = value_part word } in
    let line : word ≡ name_part word ++ 32 ∷ escaped (value_part word) =
    parted word p.0 ∙ ap (λ (v : List ℕ). name_part word ++ 32 ∷ v) (sym (plain_escaped (value_part word) q.1)) in
    record {
      attributes = a ∷ c.attributes;
      rest = c.rest;
      spelled = λ i. (65 ∷ line i) ∷ c.spelled i;
      given = (and_from _ _ q.0 c.given.0, and_from _ _ p.1 c.given.1);
      good = c.good;
    }

comes : (lines names : List (List ℕ)) (place : Place) → are_checked names place lines ≡ true → Comes names place lines
comes [] [] place h = record { attributes = []; rest = []; spelled = refl; given = none_given place; good = tt }
comes [] (name ∷ names) place h = absurd (let w : ⊥ = cc in w)
comes (line ∷ lines) [] place h = absurd (let w : ⊥ = cc in w)
comes ([] ∷ lines) (name ∷ names) place h = absurd (let w : ⊥ = cc in w)
comes ((mark ∷ word) ∷ lines) (name ∷ names) place h =
    let A = is_pyx_name word && are_checked (word ∷ name ∷ names) (Tag None) lines in
    let B = pointwise nat_eq word name && are_checked names Child lines in
    let C = is_text_at place word && are_checked (name ∷ names) Text lines in
    let D = (mark == 65) && (is_attribute_at place word && are_checked (name ∷ names) (Tag (Some (name_part word))) lines) in
    let goal : ℕ → Type 0 = λ m. Comes (name ∷ names) place ((m ∷ word) ∷ lines) in
    elim (cases_Bool (mark == 40)) [
      | inl w ↦
          let t = both_true _ _ (subst (λ (b : Bool). (if b then A else (if mark == 41 then B else (if mark == 45 then C else D))) ≡ true) w h) in
          let c = comes lines (word ∷ name ∷ names) (Tag None) t.1 in
          subst goal (sym (eqb-true mark 40 w)) (opened word name names lines place c.attributes c.rest t.0 c.spelled c.given c.good)
      | inr v ↦
          let k : (if mark == 41 then B else (if mark == 45 then C else D)) ≡ true =
          subst (λ (b : Bool). (if b then A else (if mark == 41 then B else (if mark == 45 then C else D))) ≡ true) v h in
          elim (cases_Bool (mark == 41)) [
            | inl w ↦
                let t = both_true _ _ (subst (λ (b : Bool). (if b then B else (if mark == 45 then C else D)) ≡ true) w k) in
                subst goal (sym (eqb-true mark 41 w)) (closed word name names lines place ((bytes_decides word name).0 t.0) (comes lines names Child t.1))
            | inr u ↦
                let j : (if mark == 45 then C else D) ≡ true = subst (λ (b : Bool). (if b then B else (if mark == 45 then C else D)) ≡ true) u k in
                elim (cases_Bool (mark == 45)) [
                  | inl w ↦
                      let t = both_true _ _ (subst (λ (b : Bool). (if b then C else D) ≡ true) w j) in
                      let c = comes lines (name ∷ names) Text t.1 in
                      subst goal (sym (eqb-true mark 45 w)) (said word name names lines place c.rest t.0 (only_nodes (name ∷ names) Text lines c c.given) c.good)
                  | inr x ↦
                      let t = both_true (mark == 65) _ (subst (λ (b : Bool). (if b then C else D) ≡ true) x j) in
                      let s = both_true _ _ t.1 in
                      subst goal (sym (eqb-true mark 65 t.0)) (attributed word name names lines place s.0 (comes lines (name ∷ names) (Tag (Some (name_part word))) s.1))
                ]
          ]
    ]

-- one element, whose opening line is given: what follows are its attributes, its children and its closing line
finished : (word : List ℕ) (lines : List (List ℕ)) (attributes : List Attribute) (rest : List (List Node))
    → is_pyx_name word ≡ true → lines ≡ map attribute_line attributes ++ coming (word ∷ []) rest → AreGiven (Tag None) attributes → AreGood (word ∷ []) false rest
    → (e : Element) × (((40 ∷ word) ∷ lines ≡ node_lines (element_node e)) × ((node_is_normal (element_node e) ≡ true) × (is_named (element_node e) ≡ true)))
finished word lines attributes [] name is given good = absurd good
finished word lines attributes (nodes ∷ more) name is given good = (
  made word attributes nodes,
  (
    ap (λ (l : List (List ℕ)). (40 ∷ word) ∷ l) is ∙ sym (lines_made word attributes nodes),
    (normal_made word attributes nodes given good.0, named_made word attributes nodes name given good.0),
  ),
)

pub checked : (lines : List (List ℕ)) → is_checked lines ≡ true → (e : Element) × ((lines ≡ node_lines (element_node e)) × ((node_is_normal (element_node e) ≡ true) × (is_named (element_node e) ≡ true)))
checked [] h = absurd (let w : ⊥ = cc in w)
checked ([] ∷ lines) h = absurd (let w : ⊥ = cc in w)
checked ((mark ∷ word) ∷ lines) h =
    let t = both_true (mark == 40) (is_pyx_name word && are_checked (word ∷ []) (Tag None) lines) h in
    let s = both_true (is_pyx_name word) (are_checked (word ∷ []) (Tag None) lines) t.1 in
    let c = comes lines (word ∷ []) (Tag None) s.1 in
    let f = finished word lines c.attributes c.rest s.0 c.spelled c.given c.good in
    (f.0, (ap (λ (m : ℕ). (m ∷ word) ∷ lines) (eqb-true mark 40 t.0) ∙ f.1.0, f.1.1))

pub opening_taken : (names : List (List ℕ)) (word : List ℕ) (place : Place) → 0 < length names → is_pyx_name word ≡ true → Takes names place (40 ∷ word) (word ∷ names) (Tag None)
opening_taken [] word place some named lines h = absurd (omega (arith, some))
opening_taken (name ∷ names) word place some named lines h = and_from _ _ named h

pub first_checked : (mark : ℕ) (word : List ℕ) (lines : List (List ℕ)) → (mark == 40) ≡ true → is_pyx_name word ≡ true → are_checked (word ∷ []) (Tag None) lines ≡ true → is_checked ((mark ∷ word) ∷ lines) ≡ true
first_checked mark word lines first named h = and_from _ _ first (and_from _ _ named h)
