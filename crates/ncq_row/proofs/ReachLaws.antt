-- The elements that a path reaches, node by node. For the crates above too.
use Rattle.std.proofs.Common.{◌≡◌, ℕ, Bool, true, false, cond, if◌then◌else◌, List, [], ◌∷◌, ◌++◌, map, refl, sym, ap, ◌∙◌, subst, append_assoc, append-nil, true≢false}
use Rattle.std.specs.Prelude.{◌↔◌}
use Rattle.std.specs.List.{filter, flat_map}
use Rattle.std.specs.Str.{bytes_eq}
use Rattle.std.proofs.lemmas.List.{map-append}
use Rattle.std.proofs.lemmas.List.Elements.{filter-append}
use Rattle.std.proofs.lemmas.Cmp.{nat_list_eq_equiv}
use Rattle.std.proofs.lemmas.Grind.{flat_map-append}
use Rattle.ncq_path.specs.declared.path.Path.{Path}
use Rattle.ncq_path.specs.declared.path.Path.TheVariants.{Tag}
use Rattle.ncq_path.specs.Deciding.{in_path, is_in}
use Rattle.ncq_path.specs.Expressions.{Expression}
use Rattle.ncq_path.specs.Expressions.Expression.{Letter, Empty, Never}
use Rattle.ncq_path.specs.After.{IsAfter}
use Rattle.ncq_path.specs.Paths.{InPath}
use Rattle.ncq_path.proofs.Derived.{in_path_right}
use Rattle.ncq_path.proofs.States.{nowhere}
use Rattle.ncq_path.proofs.PathCases.{expression_tag}
use Rattle.ncq_tree.specs.declared.model.Element.{Element}
use Rattle.ncq_tree.specs.declared.model.Node.{Node}
use Rattle.ncq_tree.specs.declared.model.Node.TheVariants.{Text as text_node}
use Rattle.ncq_tree.specs.declared.model.Node.TheVariants.{Element as element_node}
use Rattle.ncq_tree.specs.Nodes.{by_nodes_text, by_nodes_element}
use Rattle.ncq_tree.proofs.Inductions.{nodes_induction}
use Rattle.ncq_tree.proofs.NormalLaws.{firsts}
use Rattle.ncq_row.specs.Reached.{Place, no_places, element_places, under, places, leads_to, reached_behind, reached, reached_from}

pub places_text : (text : List ℕ) → places (text_node text) ≡ []
unfolding places
places_text text = by_nodes_text no_places element_places text

below_of : (nodes : List Node) → flat_map (λ (p : Node × List Place). p.1) (map (λ n. (n, places n)) nodes) ≡ flat_map places nodes
below_of [] = refl
below_of (n ∷ nodes) = ap (λ (ps : List Place). places n ++ ps) (below_of nodes)

pub places_element : (e : Element) → places (element_node e)
    ≡ (e.name ∷ [], e) ∷ map (under e.name) (flat_map places e.children)
unfolding places
places_element e =
    by_nodes_element no_places element_places e
    ∙ (λ i. (e.name ∷ [], record { name = e.name; attributes = e.attributes; children = firsts places e.children i })
    ∷ map (under e.name) (below_of e.children i))

-- nodes behind nodes
pub reached_append : (path : Path) (tags : List (List ℕ)) (xs ys : List Node)
    → reached_behind path tags (xs ++ ys) ≡ reached_behind path tags xs ++ reached_behind path tags ys
reached_append path tags xs ys =
    ap (λ (ps : List Place). map (λ p. p.1) (filter (leads_to path tags) ps)) (flat_map-append places xs ys)
    ∙ ap (map (λ (p : Place). p.1)) (filter-append (leads_to path tags) (flat_map places xs) (flat_map places ys))
    ∙ map-append (λ (p : Place). p.1) (filter (leads_to path tags) (flat_map places xs)) (filter (leads_to path tags) (flat_map places ys))

-- a text is not reached
pub reached_text : (path : Path) (tags : List (List ℕ)) (text : List ℕ)
    → reached_behind path tags (text_node text ∷ []) ≡ []
reached_text path tags text =
    ap (λ (ps : List Place). map (λ p. p.1) (filter (leads_to path tags) (ps ++ []))) (places_text text)

-- what stands under a name is reached where it is behind the name
under_reached : (path : Path) (tags : List (List ℕ)) (name : List ℕ) (ps : List Place)
    → map (λ p. p.1) (filter (leads_to path tags) (map (under name) ps))
    ≡ map (λ p. p.1) (filter (leads_to path (tags ++ name ∷ [])) ps)
under_reached path tags name [] = refl
under_reached path tags name (p ∷ ps) =
    by_test (leads_to path tags (under name p)) (leads_to path (tags ++ name ∷ []) p)
    (ap (in_path path) (sym (append_assoc tags (name ∷ []) p.0))) (under_reached path tags name ps)
  where
    by_test : (a b : Bool) → a ≡ b
        → map (λ (q : Place). q.1) (filter (leads_to path tags) (map (under name) ps))
        ≡ map (λ (q : Place). q.1) (filter (leads_to path (tags ++ name ∷ [])) ps)
        → map (λ (q : Place). q.1) (cond a (under name p ∷ filter (leads_to path tags) (map (under name) ps)) (filter (leads_to path tags) (map (under name) ps)))
        ≡ map (λ (q : Place). q.1) (cond b (p ∷ filter (leads_to path (tags ++ name ∷ [])) ps) (filter (leads_to path (tags ++ name ∷ [])) ps))
    by_test true true e k = ap (λ (es : List Element). p.1 ∷ es) k
    by_test true false e k = absurd (true≢false e)
    by_test false true e k = absurd (true≢false (sym e))
    by_test false false e k = k

-- an element, and what stands below it
pub reached_element : (path : Path) (tags : List (List ℕ)) (e : Element)
    → reached_behind path tags (element_node e ∷ [])
    ≡ (if in_path path (tags ++ e.name ∷ []) then e ∷ [] else [])
    ++ reached_behind path (tags ++ e.name ∷ []) e.children
reached_element path tags e =
    ap (λ (ps : List Place). map (λ p. p.1) (filter (leads_to path tags) ps))
    (append-nil (places (element_node e)) ∙ places_element e)
    ∙ by_test (in_path path (tags ++ e.name ∷ []))
    (map (under e.name) (flat_map places e.children))
    ∙ ap (λ (es : List Element). (if in_path path (tags ++ e.name ∷ []) then e ∷ [] else []) ++ es)
    (under_reached path tags e.name (flat_map places e.children))
  where
    by_test : (b : Bool) (ps : List Place)
        → map (λ (q : Place). q.1) (cond b ((e.name ∷ [], e) ∷ filter (leads_to path tags) ps) (filter (leads_to path tags) ps))
        ≡ (if b then e ∷ [] else []) ++ map (λ (q : Place). q.1) (filter (leads_to path tags) ps)
    by_test true ps = refl
    by_test false ps = refl

-- where no more names lead on, nothing is reached
module _ (path : Path) (tags : List (List ℕ))
    (h : (tag : List ℕ) (more : List (List ℕ)) → in_path path (tags ++ tag ∷ more) ≡ false) where
  none_under : (name : List ℕ) (ps : List Place) → filter (leads_to path tags) (map (under name) ps) ≡ []
  none_under name [] = refl
  none_under name (p ∷ ps) =
      (λ i. cond (h name p.0 i) (under name p ∷ filter (leads_to path tags) (map (under name) ps)) (filter (leads_to path tags) (map (under name) ps)))
      ∙ none_under name ps

  none_at : (node : Node) → filter (leads_to path tags) (places node) ≡ []
  none_at = nodes_induction (λ node. filter (leads_to path tags) (places node) ≡ [])
      (λ text. ap (filter (leads_to path tags)) (places_text text))
      (λ name attributes below.
      let e : Element = record { name = name; attributes = attributes; children = map (λ b. b.0) below } in
      ap (filter (leads_to path tags)) (places_element e)
      ∙ (λ i. cond (h name [] i) ((name ∷ [], e) ∷ filter (leads_to path tags) (map (under name) (flat_map places e.children))) (filter (leads_to path tags) (map (under name) (flat_map places e.children))))
      ∙ none_under name (flat_map places e.children))

  none_among : (nodes : List Node) → filter (leads_to path tags) (flat_map places nodes) ≡ []
  none_among [] = refl
  none_among (node ∷ nodes) =
      filter-append (leads_to path tags) (places node) (flat_map places nodes)
      ∙ (λ i. none_at node i ++ none_among nodes i)

  pub none_reached : (nodes : List Node) → reached_behind path tags nodes ≡ []
  none_reached nodes = ap (map (λ (p : Place). p.1)) (none_among nodes)

-- one name is a path of its own: it leads to a child of that name alone
pub in_name : (name : List ℕ) (tags : List (List ℕ)) → in_path (Tag name) tags ≡ is_in (Letter name) tags
in_name name tags = ap (λ (e : Expression (List ℕ)). is_in e tags) (expression_tag name)

never_in : (tags : List (List ℕ)) → is_in Never tags ≡ false
never_in [] = refl
never_in (tag ∷ tags) = never_in tags

empty_in : (tag : List ℕ) (tags : List (List ℕ)) → is_in Empty (tag ∷ tags) ≡ false
empty_in tag tags = never_in tags

-- two names or more are not in it
pub longer_not_in : (name first second : List ℕ) (more : List (List ℕ))
    → in_path (Tag name) (first ∷ second ∷ more) ≡ false
longer_not_in name first second more = in_name name (first ∷ second ∷ more) ∙ by_test (bytes_eq name first)
  where
    by_test : (b : Bool) → is_in (if b then Empty else Never) (second ∷ more) ≡ false
    by_test true = empty_in second more
    by_test false = never_in (second ∷ more)

pub none_not_in : (name : List ℕ) → in_path (Tag name) [] ≡ false
none_not_in name = in_name name []

pub one_in : (name first : List ℕ) → in_path (Tag name) (first ∷ []) ≡ bytes_eq name first
one_in name first = in_name name (first ∷ []) ∙ by_test (bytes_eq name first)
  where
    by_test : (b : Bool) → is_in (if b then Empty else Never) [] ≡ b
    by_test true = refl
    by_test false = refl

-- what one name reaches at an element
pub reached_named : (name : List ℕ) (e : Element) → reached (Tag name) (element_node e ∷ [])
    ≡ (if bytes_eq e.name name then e ∷ [] else [])
reached_named name e =
    reached_element (Tag name) [] e
    ∙ (λ i. (if (one_in name e.name ∙ nat_list_eq_equiv.symm name e.name) i then e ∷ [] else [])
    ++ none_reached (Tag name) (e.name ∷ []) (longer_not_in name e.name) e.children i)
    ∙ append-nil (if bytes_eq e.name name then e ∷ [] else [])

-- what one name reaches from an element: its children of that name
pub reached_from_named : (name : List ℕ) (e : Element) → reached_from (Tag name) e
    ≡ reached (Tag name) e.children
reached_from_named name e =
    λ i. (if none_not_in name i then e ∷ [] else []) ++ reached (Tag name) e.children

-- behind a state without positions nothing is reached
pub empty_reaches_none : (path : Path) (tags : List (List ℕ)) (state : List ℕ) (nodes : List Node)
    → state ≡ [] → IsAfter path tags state → reached_behind path tags nodes ≡ []
empty_reaches_none path tags state nodes e after =
    none_reached path tags (λ tag more. false_where (in_path path (tags ++ tag ∷ more)) (λ t.
    nowhere path tags (tag ∷ more) (subst (IsAfter path tags) e after)
    ((in_path_right path (tags ++ tag ∷ more)).0 t))) nodes
  where
    false_where : (b : Bool) → (b ≡ true → ⊥) → b ≡ false
    false_where true h = absurd (h refl)
    false_where false h = refl

-- a test that says whether the names are in the path is the other test
pub accepted_is : (path : Path) (tags : List (List ℕ)) (r : Bool) → (r ≡ true) ↔ InPath path tags
    → r ≡ in_path path tags
accepted_is path tags r d =
    let e = in_path_right path tags in
    same r (in_path path tags) (λ t. e.1 (d.0 t)) (λ t. d.1 (e.0 t))
  where
    same : (a b : Bool) → (a ≡ true → b ≡ true) → (b ≡ true → a ≡ true) → a ≡ b
    same true b f g = sym (f refl)
    same false true f g = g refl
    same false false f g = refl
