-- The children of a name, found on the lines of an element.
use Rattle.std.proofs.Common.{◌≡◌, ℕ, ◌+◌, ◌-◌, ◌<◌, ◌≤◌, ◌==◌, ◌&&◌, length, arith, Bool, true, false, List, [], ◌∷◌, ◌++◌, map, if◌then◌else◌, refl, ap, sym, ◌∙◌, subst, append_assoc, append-nil}
use Rattle.std.specs.List.{flat_map}
use Rattle.std.specs.Str.{bytes_eq}
use Rattle.std.specs.Prelude.{nat_eq}
use lib.Pointwise.{pointwise, bytes_decides}
use Rattle.ncq_path.specs.declared.path.Path.TheVariants.{Tag}
use Rattle.ncq_tree.specs.declared.model.Node.{Node}
use Rattle.ncq_tree.specs.declared.model.Node.TheVariants.{Element as element_node, Text as text_node}
use Rattle.ncq_tree.specs.declared.model.Element.{Element}
use Rattle.ncq_tree.proofs.Inductions.{nodes_induction}
use Rattle.ncq_pyx.specs.Canonical.{node_lines, canonical}
use Rattle.ncq_flat.specs.Behind.{behind, has_mark}
use Rattle.ncq_flat.specs.Insides.{insides, inside_of, if_wanted, opens}
use Rattle.ncq_flat.proofs.InsideLaws.{element_inside, text_inside, attributes_passed, found_behind}
use Rattle.ncq_row.specs.ByNames.{child_rows, named_rows}
use Rattle.ncq_row.specs.Embeddings.{Row, Rows}
use Rattle.ncq_row.specs.Reached.{reached}
use Rattle.ncq_row.proofs.ReachLaws.{reached_append, reached_text, reached_named}

-- the lines are those from inside these elements on, one for one
abbrev pub AreInside : List (List (List ℕ)) → List Element → Type 0
AreInside [] [] = Unit {0}
AreInside [] (c ∷ cs) = ⊥
AreInside (lines ∷ more) [] = ⊥
AreInside (lines ∷ more) (c ∷ cs) = ((behind : List (List ℕ)) × (lines ≡ inside_of c behind)) × AreInside more cs

joined : (a b : List (List (List ℕ))) (xs ys : List Element) → AreInside a xs → AreInside b ys → AreInside (a ++ b) (xs ++ ys)
joined [] b [] ys h k = k
joined [] b (x ∷ xs) ys h k = absurd h
joined (l ∷ a) b [] ys h k = absurd h
joined (l ∷ a) b (x ∷ xs) ys h k = (h.0, joined a b xs ys h.1 k)

module _ (tag : List ℕ) where
  abbrev IsInside : Node → Type 0
  IsInside node = (more : List (List ℕ)) (xs : List Element) → AreInside (insides (opens tag) 0 more) xs
      → AreInside (insides (opens tag) 0 (node_lines node ++ more)) (reached (Tag tag) (node ∷ []) ++ xs)

  names_agree : (name : List ℕ) (s t : Bool) → s ≡ pointwise nat_eq name tag → t ≡ bytes_eq name tag → s ≡ t
  names_agree name true true a b = refl
  names_agree name false false a b = refl
  names_agree name true false a b =
      let is : name ≡ tag = (bytes_decides name tag).0 (sym a) in
      let e : bytes_eq name tag ≡ true = (bytes_decides name tag).1 is in
      cc
  names_agree name false true a b =
      let is : name ≡ tag = (bytes_decides name tag).0 (sym b) in
      let e : pointwise nat_eq name tag ≡ true = (bytes_decides name tag).1 is in
      cc

  text_in : (text : List ℕ) → IsInside (text_node text)
  text_in text more xs h =
      subst (λ (k : List Element). AreInside (insides (opens tag) 0 (node_lines (text_node text) ++ more)) (k ++ xs)) (sym (reached_text (Tag tag) [] text))
      (subst (λ (l : List (List (List ℕ))). AreInside l xs) (sym (text_inside (opens tag) text more)) h)

  one_in : (e : Element) (more : List (List ℕ)) (s t : Bool) → s ≡ t → AreInside (if s then inside_of e more ∷ [] else []) (if t then e ∷ [] else [])
  one_in e more true true h = ((more, refl), tt)
  one_in e more false false h = tt
  one_in e more true false h = absurd (let w : ⊥ = cc in w)
  one_in e more false true h = absurd (let w : ⊥ = cc in w)

  element_in : (e : Element) → IsInside (element_node e)
  element_in e more xs h =
      subst (λ (k : List Element). AreInside (insides (opens tag) 0 (node_lines (element_node e) ++ more)) (k ++ xs)) (sym (reached_named tag e))
      (subst (λ (l : List (List (List ℕ))). AreInside l ((if bytes_eq e.name tag then e ∷ [] else []) ++ xs)) (sym (element_inside (opens tag) e more))
      (joined (if_wanted (opens tag) e more) (insides (opens tag) 0 more) (if bytes_eq e.name tag then e ∷ [] else []) xs
      (one_in e more (opens tag (40 ∷ e.name)) (bytes_eq e.name tag) (names_agree e.name (opens tag (40 ∷ e.name)) (bytes_eq e.name tag) refl refl)) h))

  node_in : (node : Node) → IsInside node
  node_in = nodes_induction IsInside text_in
      (λ name attributes below. element_in (record { name = name; attributes = attributes; children = map (λ b. b.0) below }))

  forest_in : (forest : List Node) (more : List (List ℕ)) → AreInside (insides (opens tag) 0 more) []
      → AreInside (insides (opens tag) 0 (canonical forest ++ more)) (reached (Tag tag) forest)
  forest_in [] more h = h
  forest_in (node ∷ forest) more h =
      subst (λ (k : List Element). AreInside (insides (opens tag) 0 (canonical (node ∷ forest) ++ more)) k) (sym (reached_append (Tag tag) [] (node ∷ []) forest))
      (subst (λ (l : List (List ℕ)). AreInside (insides (opens tag) 0 l) (reached (Tag tag) (node ∷ []) ++ reached (Tag tag) forest)) (sym (append_assoc (node_lines node) (canonical forest) more))
      (node_in node (canonical forest ++ more) (reached (Tag tag) forest) (forest_in forest more h)))

  -- what is found on the lines of an element is the insides of the children of the name, one for one
  pub children_are_inside : (e : Element) (more : List (List ℕ)) → AreInside (insides (opens tag) 0 (inside_of e more)) (reached (Tag tag) e.children)
  children_are_inside e more =
      subst (λ (l : List (List (List ℕ))). AreInside l (reached (Tag tag) e.children)) (sym (attributes_passed (opens tag) e.attributes 0 (canonical e.children ++ (41 ∷ e.name) ∷ more)))
      (forest_in e.children ((41 ∷ e.name) ∷ more) tt)

split : {P : Type 0} {A : Type 0} (b : Bool) (x y z : A) → (x ≡ z → P) → (y ≡ z → P) → (if b then x else y) ≡ z → P
split true x y z f g h = f h
split false x y z f g h = g h

first_is : {A : Type 0} (x y : A) (xs ys : List A) → x ∷ xs ≡ y ∷ ys → x ≡ y
first_is x y xs ys h = cc

-- what is found is shorter
pub found_shorter : (wanted : List ℕ → Bool) (depth : ℕ) (lines l : List (List ℕ)) (more : List (List (List ℕ))) → insides wanted depth lines ≡ l ∷ more → length l < length lines
found_shorter wanted depth [] l more h = absurd (let w : ⊥ = cc in w)
found_shorter wanted depth (line ∷ lines) l more h =
    split {P = length l < length (line ∷ lines)} (has_mark 40 line)
    (if (depth == 0) && wanted line then lines ∷ insides wanted (depth + 1) lines else insides wanted (depth + 1) lines)
    (if has_mark 41 line then (if depth == 0 then [] else insides wanted (depth - 1) lines) else insides wanted depth lines)
    (l ∷ more)
    (split {P = length l < length (line ∷ lines)} ((depth == 0) && wanted line) (lines ∷ insides wanted (depth + 1) lines) (insides wanted (depth + 1) lines) (l ∷ more)
    (λ e. omega (arith, ap length (first_is lines l _ _ e)))
    (λ e. omega (arith, found_shorter wanted (depth + 1) lines l more e)))
    (split {P = length l < length (line ∷ lines)} (has_mark 41 line) (if depth == 0 then [] else insides wanted (depth - 1) lines) (insides wanted depth lines) (l ∷ more)
    (split {P = length l < length (line ∷ lines)} (depth == 0) [] (insides wanted (depth - 1) lines) (l ∷ more)
    (λ e. absurd (let w : ⊥ = cc in w))
    (λ e. omega (arith, found_shorter wanted (depth - 1) lines l more e)))
    (λ e. omega (arith, found_shorter wanted depth lines l more e)))
    h

either : (n : ℕ) (b : Bool) (x y : List (List ℕ)) → length x ≤ n → length y ≤ n → length (if b then x else y) ≤ n
either n true x y h k = h
either n false x y h k = k

pub behind_shorter : (depth : ℕ) (lines : List (List ℕ)) → length (behind depth lines) ≤ length lines
behind_shorter depth [] = omega arith
behind_shorter depth (line ∷ lines) =
    let n = length (line ∷ lines) in
    let a = behind_shorter (depth + 1) lines in
    let b = behind_shorter (depth - 1) lines in
    let c = behind_shorter depth lines in
    either n (has_mark 40 line) (behind (depth + 1) lines) (if has_mark 41 line then (if depth == 0 then lines else behind (depth - 1) lines) else behind depth lines) (omega (arith, a))
    (either n (has_mark 41 line) (if depth == 0 then lines else behind (depth - 1) lines) (behind depth lines)
    (either n (depth == 0) lines (behind (depth - 1) lines) (omega arith) (omega (arith, b))) (omega (arith, c)))

-- the rows so far, and those that the children found on these lines give, are all of the rows
abbrev pub AreLeft : (List ℕ → Bool) → Bool → List (List ℕ) → Rows → Rows → Type 0
AreLeft wanted valued lines so_far total = (children : List Element)
    × (AreInside (insides wanted 0 lines) children × (so_far ++ flat_map (child_rows valued) children ≡ total))

-- at first all are left
pub all_left : (name : List ℕ) (valued : Bool) (e : Element) (more lines : List (List ℕ)) → lines ≡ inside_of e more
    → AreLeft (opens name) valued lines [] (named_rows name valued e)
all_left name valued e more lines is = (
  reached (Tag name) e.children,
  (
    subst (λ (l : List (List ℕ)). AreInside (insides (opens name) 0 l) (reached (Tag name) e.children)) (sym is) (children_are_inside name e more),
    refl,
  ),
)

-- a child less
pub next_left : (wanted : List ℕ → Bool) (valued : Bool) (rest inside later : List (List ℕ)) (so_far next total : Rows) (row : Row)
    → insides wanted 0 rest ≡ inside ∷ insides wanted 1 inside → later ≡ behind 0 inside
    → ((e : Element) (more : List (List ℕ)) → inside ≡ inside_of e more → row ∷ [] ≡ child_rows valued e)
    → next ≡ so_far ++ row ∷ [] → AreLeft wanted valued rest so_far total → AreLeft wanted valued later next total
next_left wanted valued rest inside later so_far next total row first is made n left =
    by_children left.0 (subst (λ (l : List (List (List ℕ))). AreInside l left.0) (first ∙ ap (λ (l : List (List (List ℕ))). inside ∷ l) (found_behind wanted 0 inside ∙ ap (insides wanted 0) (sym is))) left.1.0) left.1.1
  where
    by_children : (children : List Element) → AreInside (inside ∷ insides wanted 0 later) children → so_far ++ flat_map (child_rows valued) children ≡ total
        → AreLeft wanted valued later next total
    by_children [] h t = absurd h
    by_children (c ∷ children) h t = (
      children,
      (
        h.1,
        ap (λ (v : Rows). v ++ flat_map (child_rows valued) children) n
            ∙ append_assoc so_far (row ∷ []) (flat_map (child_rows valued) children)
            ∙ ap (λ (v : Rows). so_far ++ (v ++ flat_map (child_rows valued) children)) (made c h.0.0 h.0.1)
            ∙ t,
      ),
    )

-- at last none is left
pub none_left : (wanted : List ℕ → Bool) (valued : Bool) (rest : List (List ℕ)) (so_far total : Rows)
    → insides wanted 0 rest ≡ [] → AreLeft wanted valued rest so_far total → so_far ≡ total
none_left wanted valued rest so_far total none left =
    by_children left.0 (subst (λ (l : List (List (List ℕ))). AreInside l left.0) none left.1.0) left.1.1
  where
    by_children : (children : List Element) → AreInside [] children → so_far ++ flat_map (child_rows valued) children ≡ total → so_far ≡ total
    by_children [] h t = sym (append-nil so_far) ∙ t
    by_children (c ∷ children) h t = absurd h
