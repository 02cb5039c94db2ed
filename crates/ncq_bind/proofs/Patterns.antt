-- The places, the shape and the embeddings of a pattern, by its parts; and induction over patterns.
use Rattle.std.proofs.Common.{◌≡◌, List, [], ◌∷◌, ◌++◌, map, sym, ap, ◌∙◌, subst}
use Rattle.std.specs.List.{flat_map}
use Rattle.ncq_tree.specs.declared.model.Element.{Element}
use Rattle.ncq_row.specs.declared.shape.Shape.{Shape}
use Rattle.ncq_row.specs.declared.shape.ShapeContent.{ShapeContent}
use Rattle.ncq_row.specs.declared.shape.ShapeContent.TheVariants as shape
use Rattle.ncq_path.specs.declared.path.Path.{Path}
use Rattle.ncq_row.specs.Embeddings.{Rows, paired, one_of_each, value_rows}
use Rattle.ncq_row.specs.Reached.{reached_from}
use Rattle.ncq_plan.proofs.Lists.{map-map}
use Rattle.std.proofs.lemmas.List.Folds.{flat_map-map}
use Rattle.ncq_xmlql.specs.declared.model.Operand.{Operand}
use Rattle.ncq_xmlql.specs.declared.model.PatternAttribute.{PatternAttribute}
use Rattle.ncq_xmlql.specs.declared.model.Content.{Content}
use Rattle.ncq_xmlql.specs.declared.model.Content.TheVariants.{Parts, Value, rolls-Parts, rolls-Value}
use Rattle.ncq_xmlql.specs.declared.model.Content.TheViews.{out-Pattern, roll-out-Pattern, roll-Content, roll-Pattern}
use Rattle.ncq_xmlql.specs.declared.model.Content.TheOpen.{Content-F}
use Rattle.ncq_xmlql.specs.declared.model.Content.TheOpen.Content-F.{Parts as PartsLayer, Value as ValueLayer}
use Rattle.ncq_xmlql.specs.declared.model.Content.TheFolds.{para-Content, para-Pattern, para-roll-Content, para-roll-Pattern, ind-Pattern, map-Content}
use Rattle.ncq_xmlql.specs.declared.model.Pattern.{Pattern}
use Rattle.ncq_xmlql.specs.declared.model.Suffix.{Suffix}
use Rattle.ncq_bind.specs.Places.{suffix_places, content_places_layer, places_layer, places, content_places, suffix_shape, content_shape_layer, shape_layer, shape_of, content_shape}
use Rattle.ncq_bind.specs.Embeddings.{rows_taken_by, attribute_embeddings, suffix_embeddings, content_layer, pattern_layer, embeddings_at, content_embeddings, embeddings_from}

abbrev Given : Type 0
Given = Element → Rows

-- ---- places

pub places_of_pattern : (p : Pattern) → places p ≡ map (λ a. a.value) p.attributes ++ (content_places p.content ++ suffix_places p.suffix)
unfolding places content_places
places_of_pattern p =
    ap (para-Pattern (List Operand) (List Operand) content_places_layer places_layer) (sym (roll-out-Pattern p))
    ∙ para-roll-Pattern (List Operand) (List Operand) content_places_layer places_layer (out-Pattern p)

pub places_of_value : (o : Operand) → content_places (Value o) ≡ o ∷ []
unfolding content_places
places_of_value o =
    ap (para-Content (List Operand) (List Operand) content_places_layer places_layer) (sym (rolls-Value o))
    ∙ para-roll-Content (List Operand) (List Operand) content_places_layer places_layer (ValueLayer o)

pub places_of_parts : (parts : List Pattern) → content_places (Parts parts) ≡ flat_map places parts
unfolding content_places places
places_of_parts parts =
    ap (para-Content (List Operand) (List Operand) content_places_layer places_layer) (sym (rolls-Parts parts))
    ∙ para-roll-Content (List Operand) (List Operand) content_places_layer places_layer (PartsLayer parts)
    ∙ flat_map-map (λ (p : Pattern × List Operand). p.1) (λ p. (p, places p)) parts

-- the places of a pattern and of a content, by its variant
pub ruleset places_are = (places_of_pattern, places_of_value, places_of_parts)

-- ---- shapes

pub shape_of_pattern : (p : Pattern)
    → shape_of p ≡ record { tag = p.tag; attributes = map (λ a. a.name) p.attributes; content = content_shape p.content; suffix = suffix_shape p.suffix }
unfolding shape_of content_shape
shape_of_pattern p =
    ap (para-Pattern ShapeContent Shape content_shape_layer shape_layer) (sym (roll-out-Pattern p))
    ∙ para-roll-Pattern ShapeContent Shape content_shape_layer shape_layer (out-Pattern p)

pub shape_of_value : (o : Operand) → content_shape (Value o) ≡ shape.Value
unfolding content_shape
shape_of_value o =
    ap (para-Content ShapeContent Shape content_shape_layer shape_layer) (sym (rolls-Value o))
    ∙ para-roll-Content ShapeContent Shape content_shape_layer shape_layer (ValueLayer o)

pub shape_of_parts : (parts : List Pattern) → content_shape (Parts parts) ≡ shape.Parts (map shape_of parts)
unfolding content_shape shape_of
shape_of_parts parts =
    ap (para-Content ShapeContent Shape content_shape_layer shape_layer) (sym (rolls-Parts parts))
    ∙ para-roll-Content ShapeContent Shape content_shape_layer shape_layer (PartsLayer parts)
    ∙ ap shape.Parts (map-map (λ (p : Pattern × Shape). p.1) (λ p. (p, shape_of p)) parts)

-- the shape of a pattern and of a content, by its variant
pub ruleset shapes_are = (shape_of_pattern, shape_of_value, shape_of_parts)

-- ---- embeddings

pub embeddings_of_pattern : (p : Pattern) (e : Element) → embeddings_at p e
    ≡ paired (one_of_each (map (attribute_embeddings e.attributes) p.attributes)) (paired (content_embeddings p.content e) (suffix_embeddings p.suffix e))
unfolding embeddings_at content_embeddings
embeddings_of_pattern p e =
    ap (λ p. para-Pattern Given Given content_layer pattern_layer p e) (sym (roll-out-Pattern p))
    ∙ ap (λ f. f e) (para-roll-Pattern Given Given content_layer pattern_layer (out-Pattern p))

pub embeddings_of_value : (o : Operand) (e : Element) → content_embeddings (Value o) e ≡ rows_taken_by o (value_rows e)
unfolding content_embeddings
embeddings_of_value o e =
    ap (λ c. para-Content Given Given content_layer pattern_layer c e) (sym (rolls-Value o))
    ∙ ap (λ f. f e) (para-roll-Content Given Given content_layer pattern_layer (ValueLayer o))

pub embeddings_of_parts : (parts : List Pattern) (e : Element) → content_embeddings (Parts parts) e ≡ one_of_each (map (λ (p : Pattern). embeddings_from p e) parts)
unfolding content_embeddings embeddings_at
embeddings_of_parts parts e =
    ap (λ c. para-Content Given Given content_layer pattern_layer c e) (sym (rolls-Parts parts))
    ∙ ap (λ f. f e) (para-roll-Content Given Given content_layer pattern_layer (PartsLayer parts))
    ∙ ap one_of_each (map-map (λ (p : Pattern × Given). flat_map p.1 (reached_from p.0.tag e)) (λ (p : Pattern). (p, embeddings_at p)) parts)

-- ---- induction

module _ (C : Content → Type 0) (P : Pattern → Type 0)
    (values : (o : Operand) → C (Value o))
    (parts : (below : List ((p : Pattern) × P p)) → C (Parts (map (λ e. e.0) below)))
    (patterns : (tag : Path) (attributes : List PatternAttribute) (content : (c : Content) × C c) (suffix : Suffix)
    → P (record { tag = tag; attributes = attributes; content = content.0; suffix = suffix }))
  where
    layer : (x : Content-F ((c : Content) × C c) ((p : Pattern) × P p)) → C (roll-Content (map-Content _ _ _ _ (λ e. e.0) (λ e. e.0) x))
    layer (PartsLayer below) = subst C (sym (rolls-Parts (map (λ e. e.0) below))) (parts below)
    layer (ValueLayer o) = subst C (sym (rolls-Value o)) (values o)

    pub patterns_induction : (p : Pattern) → P p
    patterns_induction = ind-Pattern C P
        (λ x y e. subst (λ w. C (roll-Content w)) e (layer y))
        (λ x y e. subst (λ w. P (roll-Pattern w)) e (patterns y.tag y.attributes y.content y.suffix))
