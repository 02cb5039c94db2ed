-- A pattern's shape is well formed exactly where each path of the pattern is, and what follows of
-- the arms of a query.
use Rattle.std.proofs.Common.{◌≡◌, ℕ, ◌+◌, Bool, true, List, [], ◌∷◌, length, map, refl, sym, ap, ◌∙◌}
use Rattle.std.specs.Prelude.{◌&&◌}
use Rattle.std.specs.List.{list_all}
use Rattle.std.proofs.lemmas.List.Folds.{list_all-map}
use Rattle.ncq_path.specs.declared.path.Path.{Path}
use Rattle.ncq_path.specs.Formed.{is_formed}
use Rattle.ncq_row.specs.declared.shape.Shape.{Shape}
use Rattle.ncq_row.specs.Shapes.{by_shapes_is, by_contents_parts, by_contents_value}
use Rattle.ncq_row.specs.Formed.{shape_formed, parts_formed, shape_is_formed, content_is_formed}
use Rattle.ncq_plan.specs.WellFormed.{arm_is_formed}
use Rattle.ncq_xmlql.specs.declared.model.Operand.{Operand}
use Rattle.ncq_xmlql.specs.declared.model.PatternAttribute.{PatternAttribute}
use Rattle.ncq_xmlql.specs.declared.model.Content.{Content}
use Rattle.ncq_xmlql.specs.declared.model.Content.TheVariants.{Parts, Value}
use Rattle.ncq_xmlql.specs.declared.model.Pattern.{Pattern}
use Rattle.ncq_xmlql.specs.declared.model.Suffix.{Suffix}
use Rattle.ncq_xmlql.specs.declared.model.QueryItem.{QueryItem}
use Rattle.ncq_xmlql.specs.declared.model.QueryItem.TheVariants.{Match, Condition, Satisfies}
use Rattle.ncq_xmlql.specs.PatternPaths.{pattern_paths, content_paths, item_paths, all_paths}
use Rattle.ncq_xmlql.proofs.PatternPathLaws.{paths_of_pattern, paths_of_value, paths_of_parts}
use Rattle.ncq_bind.specs.declared.constraint.Constraint.{Constraint}
use Rattle.ncq_bind.specs.Places.{places, shape_of, content_shape, suffix_shape}
use Rattle.ncq_bind.specs.Answers.{QueryArm, arm_of, item_arms, arms_of}
use Rattle.ncq_bind.specs.NormalArms.{open_arms, normal_arm}
use Rattle.ncq_bind.specs.Laws.{FormedLaw}
use Rattle.ncq_bind.proofs.ListLaws.{all-flat_map}
use Rattle.ncq_bind.proofs.Patterns.{shape_of_pattern, shape_of_value, shape_of_parts, patterns_induction}

abbrev P : Pattern → Type 0
P p = shape_is_formed (shape_of p) ≡ pattern_paths is_formed p

abbrev C : Content → Type 0
C c = content_is_formed (content_shape c) ≡ content_paths is_formed c

value_formed : (o : Operand) → C (Value o)
value_formed o = ap content_is_formed (shape_of_value o) ∙ by_contents_value shape_formed parts_formed true ∙ sym (paths_of_value is_formed o)

each_formed : (below : List ((p : Pattern) × P p))
    → list_all (λ (x : Shape × Bool). x.1) (map (λ (s : Shape). (s, shape_is_formed s)) (map shape_of (map (λ (e : (p : Pattern) × P p). e.0) below)))
    ≡ list_all (pattern_paths is_formed) (map (λ (e : (p : Pattern) × P p). e.0) below)
each_formed [] = refl
each_formed (e ∷ below) = λ i. e.1 i && each_formed below i

parts_are_formed : (below : List ((p : Pattern) × P p)) → C (Parts (map (λ e. e.0) below))
parts_are_formed below =
    let ps : List Pattern = map (λ (e : (p : Pattern) × P p). e.0) below in
    ap content_is_formed (shape_of_parts ps) ∙ by_contents_parts shape_formed parts_formed true (map shape_of ps) ∙ each_formed below ∙ sym (paths_of_parts is_formed ps)

pattern_formed : (tag : Path) (attributes : List PatternAttribute) (content : (c : Content) × C c) (suffix : Suffix)
    → P (record { tag = tag; attributes = attributes; content = content.0; suffix = suffix })
pattern_formed tag attributes content suffix =
    let p : Pattern = record { tag = tag; attributes = attributes; content = content.0; suffix = suffix } in
    let s : Shape = record { tag = tag; attributes = map (λ a. a.name) attributes; content = content_shape content.0; suffix = suffix_shape suffix } in
    ap shape_is_formed (shape_of_pattern p) ∙ by_shapes_is shape_formed parts_formed true s ∙ (λ i. is_formed tag && content.1 i) ∙ sym (paths_of_pattern is_formed p)

pub shape_is_formed_where : FormedLaw
shape_is_formed_where = patterns_induction C P value_formed parts_are_formed pattern_formed

-- ---- arms

abbrev arm_paths : QueryArm → Bool
arm_paths arm = pattern_paths is_formed arm.pattern

each_arm : (constraints : List Constraint) (offset : ℕ) (arms : List QueryArm)
    → list_all arm_is_formed (map (normal_arm constraints) (open_arms offset arms)) ≡ list_all arm_paths arms
each_arm constraints offset [] = refl
each_arm constraints offset (arm ∷ arms) = λ i. shape_is_formed_where arm.pattern i && each_arm constraints (offset + length (places arm.pattern)) arms i

each_of_item : (item : QueryItem) → list_all arm_paths (item_arms item) ≡ item_paths is_formed item
each_of_item (Match root patterns source) = list_all-map arm_paths (arm_of source) patterns
each_of_item (Condition left op right) = refl
each_of_item (Satisfies variable predicate argument) = refl

each_of_items : (items : List QueryItem) → list_all (λ item. list_all arm_paths (item_arms item)) items ≡ all_paths is_formed items
each_of_items [] = refl
each_of_items (item ∷ items) = λ i. each_of_item item i && each_of_items items i

-- the arms of a query's normal form have well formed paths exactly where the query has
pub arms_are_formed : (constraints : List Constraint) (items : List QueryItem)
    → list_all arm_is_formed (map (normal_arm constraints) (open_arms 0 (arms_of items))) ≡ all_paths is_formed items
arms_are_formed constraints items =
    each_arm constraints 0 (arms_of items) ∙ all-flat_map arm_paths item_arms items ∙ each_of_items items
