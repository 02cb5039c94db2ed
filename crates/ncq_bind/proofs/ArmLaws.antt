-- The embeddings of a pattern are the rows of its shape that have its literals.
use Rattle.std.proofs.Common.{◌≡◌, ℕ, Bool, true, false, List, [], ◌∷◌, map, refl, sym, ap, ◌∙◌}
use Rattle.std.specs.Prelude.{if◌then◌else◌}
use Rattle.std.specs.List.{flat_map, list_all}
use Rattle.std.specs.Str.{bytes_eq}
use Rattle.ncq_tree.specs.declared.model.Attribute.{Attribute}
use Rattle.ncq_tree.specs.declared.model.Element.{Element}
use Rattle.ncq_tree.specs.declared.model.Node.{Node}
use Rattle.ncq_tree.specs.declared.model.Node.TheVariants.{Element as element_node}
use Rattle.ncq_row.specs.declared.shape.Shape.{Shape}
use Rattle.ncq_row.specs.declared.value.Value.{Value}
use Rattle.ncq_row.specs.declared.value.Value.TheVariants.{Text}
use Rattle.ncq_row.specs.Embeddings.{Rows, one_of_each, attribute_rows, suffix_rows, value_rows, rows_at, content_rows, rows_among, rows_from, rows_of}
use Rattle.ncq_row.specs.Reached.{reached, reached_from}
use Rattle.ncq_row.proofs.CallerLemmas.{rows_of_shape, rows_of_value, rows_of_parts}
use Rattle.std.specs.List.{AllByRecursion}
use Rattle.ncq_bind.proofs.ListLaws.{each_of_all, each_implied, filters_agree}
use Rattle.ncq_plan.proofs.Lists.{filter_all, map-map}
use Rattle.std.proofs.lemmas.List.Concat.{flat_map_single}
use Rattle.std.proofs.lemmas.List.Folds.{flat_map-map}
use Rattle.ncq_xmlql.specs.ItemReading.{is_variable}
use Rattle.ncq_xmlql.specs.declared.model.Operand.{Operand}
use Rattle.ncq_xmlql.specs.declared.model.Operand.TheVariants.{Variable, Literal}
use Rattle.ncq_xmlql.specs.declared.model.PatternAttribute.{PatternAttribute}
use Rattle.ncq_xmlql.specs.declared.model.Content.{Content}
use Rattle.ncq_xmlql.specs.declared.model.Content.TheVariants.{Parts, Value as OneValue}
use Rattle.ncq_xmlql.specs.declared.model.Pattern.{Pattern}
use Rattle.ncq_xmlql.specs.declared.model.Suffix.{Suffix}
use Rattle.ncq_xmlql.specs.declared.model.Suffix.TheVariants.{Plain, ElementAs, ContentAs}
use Rattle.ncq_bind.specs.Places.{suffix_places, places, content_places, suffix_shape, shape_of, content_shape}
use Rattle.ncq_bind.specs.Embeddings.{is_taken, rows_taken_by, attribute_embeddings, suffix_embeddings, embeddings_at, content_embeddings, embeddings_in, embeddings_from, embeddings, has_literals}
use Rattle.ncq_bind.specs.Laws.{ArmLaw, OpenLaw}
use Rattle.ncq_bind.proofs.Splits.{HasWidth, Splits, splits_along, splits_paired, splits_each, splits_flat_map}
use Rattle.ncq_bind.proofs.Patterns.{places_of_pattern, places_of_value, places_of_parts, shape_of_pattern, shape_of_value, shape_of_parts, embeddings_of_pattern, embeddings_of_value, embeddings_of_parts, patterns_induction}

-- of rows of one value, a literal takes those that have it
one_taken : (o : Operand) (row : List Value) → HasWidth (o ∷ []) row → list_all (is_taken o) row ≡ has_literals (o ∷ []) row
one_taken o [] e = absurd cc
one_taken o (v ∷ []) e = refl
one_taken o (v ∷ (w ∷ row)) e = absurd cc

splits_taken : (o : Operand) (rows : Rows) → AllByRecursion (HasWidth (o ∷ [])) rows → Splits (o ∷ []) (rows_taken_by o rows) rows
splits_taken o rows e = record {
  kept = filters_agree (list_all (is_taken o)) (has_literals (o ∷ [])) rows
      (each_implied (HasWidth (o ∷ [])) (λ row. list_all (is_taken o) row ≡ has_literals (o ∷ []) row) (one_taken o) rows e);
  wide = e;
}

attribute_wide : (o : Operand) (attributes : List Attribute) (name : List ℕ) → AllByRecursion (HasWidth (o ∷ [])) (attribute_rows attributes name)
attribute_wide o [] name = tt
attribute_wide o (a ∷ more) name = by_name (bytes_eq a.name name) (attribute_rows more name) (attribute_wide o more name)
  where
    by_name : (b : Bool) (rows : Rows) → AllByRecursion (HasWidth (o ∷ [])) rows → AllByRecursion (HasWidth (o ∷ [])) (if b then (Text a.value ∷ []) ∷ [] else rows)
    by_name true rows e = (refl, tt)
    by_name false rows e = e

splits_suffix : (s : Suffix) (e : Element) → Splits (suffix_places s) (suffix_embeddings s e) (suffix_rows (suffix_shape s) e)
splits_suffix Plain e = record { kept = refl; wide = (refl, tt) }
splits_suffix (ElementAs x) e = record { kept = refl; wide = (refl, tt) }
splits_suffix (ContentAs x) e = record { kept = refl; wide = (refl, tt) }

splits_attributes : (attributes : List PatternAttribute) (e : Element)
    → Splits (map (λ a. a.value) attributes) (one_of_each (map (attribute_embeddings e.attributes) attributes))
    (one_of_each (map (attribute_rows e.attributes) (map (λ a. a.name) attributes)))
splits_attributes attributes e =
    splits_along (sym (flat_map_single (λ a. a.value) attributes)) refl (ap one_of_each (map-map (attribute_rows e.attributes) (λ (a : PatternAttribute). a.name) attributes))
    (splits_each (λ (a : PatternAttribute). a.value ∷ []) (attribute_embeddings e.attributes) (λ a. attribute_rows e.attributes a.name) attributes
    (each_of_all (λ (a : PatternAttribute). Splits (a.value ∷ []) (attribute_embeddings e.attributes a) (attribute_rows e.attributes a.name))
    (λ a. splits_taken a.value (attribute_rows e.attributes a.name) (attribute_wide a.value e.attributes a.name)) attributes))

abbrev PatternSplits : Pattern → Type 0
PatternSplits p = (e : Element) → Splits (places p) (embeddings_at p e) (rows_at (shape_of p) e)

abbrev ContentSplits : Content → Type 0
ContentSplits c = (e : Element) → Splits (content_places c) (content_embeddings c e) (content_rows (content_shape c) e)

-- a pattern and its shape reach the same elements
splits_in : (p : Pattern) → PatternSplits p → (nodes : List Node) → Splits (places p) (embeddings_in p nodes) (rows_among (shape_of p) nodes)
splits_in p h nodes =
    splits_along refl refl (ap (λ (s : Shape). flat_map (rows_at (shape_of p)) (reached s.tag nodes)) (shape_of_pattern p))
    (splits_flat_map (places p) (embeddings_at p) (rows_at (shape_of p)) (reached p.tag nodes) h)

splits_from : (p : Pattern) → PatternSplits p → (e : Element) → Splits (places p) (embeddings_from p e) (rows_from (shape_of p) e)
splits_from p h e =
    splits_along refl refl (ap (λ (s : Shape). flat_map (rows_at (shape_of p)) (reached_from s.tag e)) (shape_of_pattern p))
    (splits_flat_map (places p) (embeddings_at p) (rows_at (shape_of p)) (reached_from p.tag e) h)

value_splits : (o : Operand) → ContentSplits (OneValue o)
value_splits o e =
    splits_along (places_of_value o) (embeddings_of_value o e) (ap (λ c. content_rows c e) (shape_of_value o) ∙ rows_of_value e) (splits_taken o (value_rows e) (refl, tt))

parts_split : (below : List ((p : Pattern) × PatternSplits p)) → ContentSplits (Parts (map (λ b. b.0) below))
parts_split below e =
    splits_along
    (places_of_parts (map (λ b. b.0) below) ∙ flat_map-map places (λ (b : (p : Pattern) × PatternSplits p). b.0) below)
    (embeddings_of_parts (map (λ b. b.0) below) e ∙ ap one_of_each (map-map (λ (p : Pattern). embeddings_from p e) (λ (b : (p : Pattern) × PatternSplits p). b.0) below))
    (ap (λ c. content_rows c e) (shape_of_parts (map (λ b. b.0) below))
    ∙ rows_of_parts (map shape_of (map (λ b. b.0) below)) e
    ∙ ap one_of_each (map-map (λ (s : Shape). rows_from s e) shape_of (map (λ b. b.0) below)
    ∙ map-map (λ (p : Pattern). rows_from (shape_of p) e) (λ (b : (p : Pattern) × PatternSplits p). b.0) below))
    (splits_each (λ (b : (p : Pattern) × PatternSplits p). places b.0) (λ b. embeddings_from b.0 e) (λ b. rows_from (shape_of b.0) e) below
    (each_of_all (λ (b : (p : Pattern) × PatternSplits p). Splits (places b.0) (embeddings_from b.0 e) (rows_from (shape_of b.0) e))
    (λ b. splits_from b.0 b.1 e) below))

whole_splits : (p : Pattern) → ContentSplits p.content → PatternSplits p
whole_splits p h e =
    splits_along (places_of_pattern p) (embeddings_of_pattern p e) (ap (λ s. rows_at s e) (shape_of_pattern p) ∙ rows_of_shape _ e)
    (splits_paired (splits_attributes p.attributes e) (splits_paired (h e) (splits_suffix p.suffix e)))

splits_at : (p : Pattern) → PatternSplits p
splits_at = patterns_induction ContentSplits PatternSplits value_splits parts_split
    (λ tag attributes content suffix. whole_splits (record { tag = tag; attributes = attributes; content = content.0; suffix = suffix }) content.1)

pattern_splits : (p : Pattern) (e : Element) → Splits (places p) (embeddings p e) (rows_of (shape_of p) e)
pattern_splits p e = splits_in p (splits_at p) (element_node e ∷ [])

pub arm_law : ArmLaw
arm_law p e = (pattern_splits p e).kept

taken_open : (ps : List Operand) (row : List Value) → list_all is_variable ps ≡ true → has_literals ps row ≡ true
taken_open [] row e = refl
taken_open (o ∷ ps) [] e = refl
taken_open ((Variable x) ∷ ps) (v ∷ row) e = taken_open ps row e
taken_open ((Literal text) ∷ ps) (v ∷ row) e = absurd cc

pub open_law : OpenLaw
open_law p e open_places =
    let rows = rows_of (shape_of p) e in
    (pattern_splits p e).kept
    ∙ filters_agree (has_literals (places p)) (λ row. true) rows (each_of_all (λ row. has_literals (places p) row ≡ true) (λ row. taken_open (places p) row open_places) rows)
    ∙ filter_all rows
