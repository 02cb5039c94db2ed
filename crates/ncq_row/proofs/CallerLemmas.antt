-- The rows of a shape, by its parts. For the crates above too.
use Rattle.std.proofs.Common.{◌≡◌, ℕ, ◌+◌, Bool, true, false, if◌then◌else◌, List, [], ◌∷◌, ◌++◌, length}
use Rattle.std.proofs.Common.{map, refl, sym, ap, ◌∙◌, add_assoc, arith, zero-add}
use Rattle.std.specs.Prelude.{not, fold}
use Rattle.std.specs.List.{flat_map, sum_by}
use Rattle.std.proofs.lemmas.List.{append-nil}
use Rattle.std.specs.Str.{bytes_eq}
use Rattle.ncq_tree.specs.declared.model.Attribute.{Attribute}
use Rattle.ncq_tree.specs.declared.model.Element.{Element}
use Rattle.ncq_tree.specs.declared.model.Node.{Node}
use Rattle.ncq_tree.specs.declared.model.Node.TheVariants.{Text as text_node}
use Rattle.ncq_tree.specs.declared.model.Node.TheVariants.{Element as element_node}
use Rattle.ncq_path.specs.declared.path.Path.{Path}
use Rattle.ncq_path.specs.declared.path.Path.TheVariants.{Tag}
use Rattle.ncq_path.specs.Deciding.{in_path}
use Rattle.ncq_row.specs.declared.shape.Shape.{Shape}
use Rattle.ncq_row.specs.declared.shape.ShapeContent.{ShapeContent}
use Rattle.ncq_row.specs.declared.shape.ShapeContent.TheVariants.{Parts, Value}
use Rattle.ncq_row.specs.declared.shape.ShapeSuffix.{ShapeSuffix}
use Rattle.ncq_row.specs.declared.shape.ShapeSuffix.TheVariants.{Plain, Element as WholeElement}
use Rattle.ncq_row.specs.declared.shape.ShapeSuffix.TheVariants.{Content}
use Rattle.ncq_row.specs.declared.value.Value.TheVariants.{Text}
use Rattle.ncq_row.specs.Shapes.{by_shapes_is, by_contents_parts, by_contents_value}
use Rattle.ncq_row.specs.Embeddings.{Rows, paired, one_of_each}
use Rattle.ncq_row.specs.Embeddings.{rows_from, attribute_rows, suffix_rows, shape_rows}
use Rattle.ncq_row.specs.Reached.{reached, reached_behind, reached_from}
use Rattle.ncq_row.proofs.ReachLaws.{reached_append, reached_text, reached_element, reached_named, reached_from_named}
use Rattle.std.proofs.lemmas.Grind.{flat_map-append}
use Rattle.std.proofs.lemmas.List.{map-append, take_more}
use Rattle.std.proofs.Common.{append_assoc, take, get_or, ◌<◌, Bor}
use Rattle.ncq_row.specs.Embeddings.{parts_rows, value_rows, rows_at, content_rows, rows_among}
use Rattle.ncq_row.specs.Embeddings.{rows_of}
use Rattle.ncq_row.specs.Widths.{width, content_width, suffix_width}
use Rattle.ncq_row.proofs.Inductions.{shapes_induction}
use Rattle.ncq_row.proofs.ShapeLaws.{width_of_shape, width_of_parts, width_of_value}
use Rattle.ncq_row.proofs.WideRows.{AreWide, wide_renamed, wide_flat_map, wide_paired}

-- a shape has the values of its attributes, then those of its content, then that of its suffix
pub rows_of_shape : (s : Shape) (e : Element) → rows_at s e
    ≡ paired (one_of_each (map (attribute_rows e.attributes) s.attributes))
    (paired (content_rows s.content e) (suffix_rows s.suffix e))
rows_of_shape s e =
    ap (λ (f : Element → Rows). f e) (by_shapes_is shape_rows parts_rows value_rows s)

-- a value has the children
pub rows_of_value : (e : Element) → content_rows Value e ≡ value_rows e
rows_of_value e =
    ap (λ (f : Element → Rows). f e) (by_contents_value shape_rows parts_rows value_rows)

each_from : (e : Element) (parts : List Shape)
    → map (λ (p : Shape × (Element → Rows)). flat_map p.1 (reached_from p.0.tag e))
    (map (λ (p : Shape). (p, rows_at p)) parts) ≡ map (λ (p : Shape). rows_from p e) parts
each_from e [] = refl
each_from e (p ∷ parts) = ap (λ (v : List Rows). rows_from p e ∷ v) (each_from e parts)

-- parts have one row of each, found at the elements that each may choose
pub rows_of_parts : (parts : List Shape) (e : Element) → content_rows (Parts parts) e
    ≡ one_of_each (map (λ (p : Shape). rows_from p e) parts)
rows_of_parts parts e =
    ap (λ (f : Element → Rows). f e) (by_contents_parts shape_rows parts_rows value_rows parts)
    ∙ ap one_of_each (each_from e parts)

-- nodes behind nodes
pub rows_among_append : (s : Shape) (xs ys : List Node)
    → rows_among s (xs ++ ys) ≡ rows_among s xs ++ rows_among s ys
rows_among_append s xs ys =
    ap (flat_map (rows_at s)) (reached_append s.tag [] xs ys)
    ∙ flat_map-append (rows_at s) (reached s.tag xs) (reached s.tag ys)

-- a shape has no rows at a text
pub rows_of_text : (s : Shape) (text : List ℕ) → rows_among s (text_node text ∷ []) ≡ []
rows_of_text s text = ap (flat_map (rows_at s)) (reached_text s.tag [] text)

-- a shape whose path is one name has rows at an element of that name
pub rows_of_named : (s : Shape) (name : List ℕ) (e : Element) → s.tag ≡ Tag name
    → rows_among s (element_node e ∷ []) ≡ (if bytes_eq e.name name then rows_at s e else [])
rows_of_named s name e t =
    ap (λ (path : Path). flat_map (rows_at s) (reached path (element_node e ∷ []))) t
    ∙ ap (flat_map (rows_at s)) (reached_named name e)
    ∙ by_name (bytes_eq e.name name)
  where
    by_name : (b : Bool) → flat_map (rows_at s) (if b then e ∷ [] else [])
        ≡ (if b then rows_at s e else [])
    by_name true = append-nil (rows_at s e)
    by_name false = refl

-- and none in one of another name
pub rows_of_other : (s : Shape) (name : List ℕ) (e : Element) → s.tag ≡ Tag name
    → not (bytes_eq e.name name) ≡ true → rows_among s (element_node e ∷ []) ≡ []
rows_of_other s name e t h = rows_of_named s name e t ∙ by_name (bytes_eq e.name name) h
  where
    by_name : (b : Bool) → not b ≡ true → (if b then rows_at s e else []) ≡ []
    by_name true h = cc
    by_name false h = refl

-- a part whose path is one name has rows at the children of that name
pub rows_from_named : (s : Shape) (name : List ℕ) (e : Element) → s.tag ≡ Tag name
    → rows_from s e ≡ rows_among s e.children
rows_from_named s name e t =
    ap (λ (path : Path). flat_map (rows_at s) (reached_from path e)) t
    ∙ ap (flat_map (rows_at s)) (reached_from_named name e)
    ∙ ap (λ (path : Path). flat_map (rows_at s) (reached path e.children)) (sym t)

-- a shape has rows in an element, and below it, where its path leads
pub rows_of_element : (s : Shape) (e : Element) → rows_of s e
    ≡ flat_map (rows_at s) ((if in_path s.tag (e.name ∷ []) then e ∷ [] else [])
    ++ reached_behind s.tag (e.name ∷ []) e.children)
rows_of_element s e = ap (flat_map (rows_at s)) (reached_element s.tag [] e)

-- the rows of a shape and of a content, by its variant
pub ruleset rows_are = (rows_of_shape, rows_of_value, rows_of_parts)

-- an attribute has one value, where it is there
attribute_is_wide : (attributes : List Attribute) (name : List ℕ)
    → AreWide 1 (attribute_rows attributes name)
attribute_is_wide [] name = tt
attribute_is_wide (a ∷ more) name =
    elim (bytes_eq a.name name) as
    (λ b. AreWide 1 (if b then (Text a.value ∷ []) ∷ [] else attribute_rows more name)) [
      | true ↦ (refl, tt)
      | false ↦ attribute_is_wide more name
    ]

attributes_are_wide : (attributes : List Attribute) (names : List (List ℕ))
    → AreWide (length names) (one_of_each (map (attribute_rows attributes) names))
attributes_are_wide attributes [] = (refl, tt)
attributes_are_wide attributes (name ∷ names) =
    wide_renamed (omega arith) refl
    (wide_paired 1 (length names) (attribute_rows attributes name)
    (one_of_each (map (attribute_rows attributes) names)) (attribute_is_wide attributes name)
    (attributes_are_wide attributes names))

suffix_is_wide : (suffix : ShapeSuffix) (e : Element)
    → AreWide (suffix_width suffix) (suffix_rows suffix e)
suffix_is_wide Plain e = (refl, tt)
suffix_is_wide WholeElement e = (refl, tt)
suffix_is_wide Content e = (refl, tt)

sum_from : {A : Type 0} (f : A → ℕ) (n : ℕ) (xs : List A) → fold (λ a x. a + f x) n xs
    ≡ n + sum_by f xs
sum_from f n [] = omega arith
sum_from f n (x ∷ xs) = let more = sum_from f (n + f x) xs in let rest = sum_from f (0 + f x) xs in
    omega arith

sum_of_first : {A : Type 0} (f : A → ℕ) (x : A) (xs : List A) → f x + sum_by f xs
    ≡ sum_by f (x ∷ xs)
sum_of_first f x xs = sym (sum_from f (0 + f x) xs ∙ ap (λ n. n + sum_by f xs) (zero-add (f x)))

abbrev WideAt : Shape → Type 0
WideAt s = (e : Element) → AreWide (width s) (rows_at s e)

abbrev WideContent : ShapeContent → Type 0
WideContent c = (e : Element) → AreWide (content_width c) (content_rows c e)

parts_are_wide : (e : Element) (below : List ((s : Shape) × WideAt s))
    → AreWide (sum_by width (map (λ b. b.0) below))
    (one_of_each (map (λ (p : Shape). rows_from p e) (map (λ b. b.0) below)))
parts_are_wide e [] = (refl, tt)
parts_are_wide e (part ∷ below) =
    wide_renamed (sum_of_first width part.0 (map (λ b. b.0) below)) refl
    (wide_paired (width part.0) (sum_by width (map (λ b. b.0) below)) (rows_from part.0 e)
    (one_of_each (map (λ (p : Shape). rows_from p e) (map (λ b. b.0) below)))
    (wide_flat_map (width part.0) (rows_at part.0) part.1 (reached_from part.0.tag e))
    (parts_are_wide e below))

pub rows_at_have_width : (s : Shape) (e : Element) → AreWide (width s) (rows_at s e)
rows_at_have_width = shapes_induction WideAt WideContent
    (λ s content e. wide_renamed
    (sym (add_assoc (length s.attributes) (content_width s.content) (suffix_width s.suffix))
    ∙ sym (width_of_shape s)) (sym (rows_of_shape s e))
    (wide_paired (length s.attributes) (content_width s.content + suffix_width s.suffix)
    (one_of_each (map (attribute_rows e.attributes) s.attributes))
    (paired (content_rows s.content e) (suffix_rows s.suffix e))
    (attributes_are_wide e.attributes s.attributes)
    (wide_paired (content_width s.content) (suffix_width s.suffix) (content_rows s.content e)
    (suffix_rows s.suffix e) (content e) (suffix_is_wide s.suffix e))))
    (λ below e. wide_renamed (sym (width_of_parts (map (λ p. p.0) below)))
    (sym (rows_of_parts (map (λ p. p.0) below) e)) (parts_are_wide e below))
    (λ e. wide_renamed (sym width_of_value) (sym (rows_of_value e)) (refl, tt))

-- a row of a shape has a value for each of its places
pub rows_have_width : (s : Shape) (e : Element) → AreWide (width s) (rows_of s e)
rows_have_width s e =
    wide_flat_map (width s) (rows_at s) (rows_at_have_width s) (reached s.tag (element_node e ∷ []))

-- one element more of those that are reached
pub next_reached : (s : Shape) (front : List Element) (below : List (Bor Element)) (i : ℕ)
    (e : Bor Element) (all found more : Rows) → i < length below → e ≡ get_or below i e
    → found ≡ rows_at s e.now → more ≡ all ++ found
    → all ≡ flat_map (rows_at s) (front ++ map (λ (b : Bor Element). b.now) (take i below))
    → more ≡ flat_map (rows_at s) (front ++ map (λ (b : Bor Element). b.now) (take (i + 1) below))
next_reached s front below i e all found more h p f m a =
    m ∙ (λ j. a j ++ f j)
    ∙ (λ j. flat_map (rows_at s) (front ++ map (λ (b : Bor Element). b.now) (take i below)) ++ sym (append-nil (rows_at s e.now)) j)
    ∙ sym (flat_map-append (rows_at s) (front ++ map (λ (b : Bor Element). b.now) (take i below)) (e.now ∷ []))
    ∙ ap (flat_map (rows_at s)) (append_assoc front (map (λ (b : Bor Element). b.now) (take i below)) (e.now ∷ [])
    ∙ ap (λ (es : List Element). front ++ es) (sym (map-append (λ (b : Bor Element). b.now) (take i below) (e ∷ []))
    ∙ ap (map (λ (b : Bor Element). b.now)) ((λ j. take i below ++ p j ∷ []) ∙ sym (take_more below i e h))))
