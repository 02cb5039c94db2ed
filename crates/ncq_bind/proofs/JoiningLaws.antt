-- The forests of a normal query's rows are all that the query answers.
use Rattle.std.proofs.Common.{◌≡◌, ℕ, ◌+◌, true, List, [], ◌∷◌, length, map, refl, sym, ap, ◌∙◌, subst, zero-add}
use Rattle.std.specs.Prelude.{◌&&◌}
use Rattle.std.specs.List.{list_all, filter, flat_map}
use Rattle.ncq_tree.specs.Normal.{normal}
use Rattle.ncq_row.specs.declared.value.Value.{Value}
use Rattle.ncq_row.specs.Embeddings.{Row, Rows, one_of_each, rows_of}
use Rattle.ncq_row.proofs.CallerLemmas.{rows_have_width}
use Rattle.ncq_row.specs.Values.{value_at}
use Rattle.std.specs.List.{AllByRecursion}
use Rattle.ncq_bind.proofs.ListLaws.{each_of_all, each_implied, each-filter, map_agrees, filters_agree}
use Rattle.ncq_plan.proofs.Lists.{filter-filter}
use Rattle.std.proofs.lemmas.List.Folds.{list_all-append}
use Rattle.ncq_plan.specs.Templates.{constructed}
use Rattle.ncq_plan.specs.Exprs.{World}
use Rattle.ncq_plan.specs.Relations.{Relations}
use Rattle.ncq_plan.specs.Products.{arm_rows, meets, prod}
use Rattle.ncq_tree.specs.declared.model.Element.{Element}
use Rattle.ncq_xmlql.specs.declared.model.Pattern.{Pattern}
use Rattle.ncq_xmlql.specs.declared.model.Query.{Query}
use Rattle.ncq_xmlql.specs.WellFormed.{item_is_whole}
use Rattle.ncq_bind.specs.declared.constraint.Constraint.{Constraint}
use Rattle.ncq_bind.specs.Places.{places, shape_of}
use Rattle.ncq_bind.specs.Embeddings.{embeddings, has_literals}
use Rattle.ncq_bind.specs.Answers.{QueryArm, arms_of, places_of, arm_embeddings, choices, first_value, all_agree as values_agree, item_holds, is_binding, made_forest, all}
use Rattle.ncq_bind.specs.Constraints.{first_slot, constraints_from, item_constraints, constraints_of}
use Rattle.ncq_bind.specs.NormalArms.{open_arms, normal_arm}
use Rattle.ncq_bind.specs.NormalQueries.{normal_query}
use Rattle.ncq_bind.specs.Bound.{item_is_bound}
use Rattle.std.proofs.Math.Bool.{and_assoc}
use Rattle.ncq_bind.specs.Laws.{ArmLaw}
use Rattle.ncq_bind.proofs.Splits.{HasWidth, Splits, splits_each, splits_flat_map}
use Rattle.ncq_bind.proofs.Widths.{width_of}
use Rattle.ncq_bind.proofs.Slots.{first_is}
use Rattle.ncq_bind.proofs.ConstraintLaws.{constraint_holds, places_hold, items_hold, constraints_in}
use Rattle.ncq_bind.proofs.SharingLaws.{shared}
use Rattle.ncq_bind.proofs.TemplateLaws.{nodes_made}

-- ---- the rows of the arms

abbrev shape_rows : World → QueryArm → Rows
shape_rows world arm = flat_map (rows_of (shape_of arm.pattern)) (world arm.source)

-- all that is used of embeddings is the arm law: so the choices are the rows that have the literals, and each row has a value for each place
pattern_splits : ArmLaw → (p : Pattern) (e : Element) → Splits (places p) (embeddings p e) (rows_of (shape_of p) e)
pattern_splits arm_law p e = record {
  kept = arm_law p e;
  wide = subst (λ n. AllByRecursion (λ (row : Row). length row ≡ n) (rows_of (shape_of p) e)) (width_of p) (rows_have_width (shape_of p) e);
}

choices_split : ArmLaw → (world : World) (arms : List QueryArm) → Splits (places_of arms) (choices world arms) (one_of_each (map (shape_rows world) arms))
choices_split arm_law world arms =
    splits_each (λ (arm : QueryArm). places arm.pattern) (arm_embeddings world) (shape_rows world) arms
    (each_of_all (λ (arm : QueryArm). Splits (places arm.pattern) (arm_embeddings world arm) (shape_rows world arm))
    (λ arm. splits_flat_map (places arm.pattern) (embeddings arm.pattern) (rows_of (shape_of arm.pattern)) (world arm.source) (pattern_splits arm_law arm.pattern)) arms)

rows_stay : (world : World) (constraints : List Constraint) (offset : ℕ) (arms : List QueryArm)
    → map (arm_rows world) (map (normal_arm constraints) (open_arms offset arms)) ≡ map (shape_rows world) arms
rows_stay world constraints offset [] = refl
rows_stay world constraints offset (arm ∷ arms) = ap (λ v. shape_rows world arm ∷ v) (rows_stay world constraints (offset + length (places arm.pattern)) arms)

-- ---- one row

module _ (relations : Relations) (query : Query) (whole : list_all item_is_whole query.items ≡ true) (bound : list_all (item_is_bound (places_of (arms_of query.items))) query.items ≡ true) where
  -- the constraints hold of a row that has the literals and is a binding, and of no other
  constraints_are : (row : List Value) → HasWidth (places_of (arms_of query.items)) row
      → list_all (constraint_holds relations row) (constraints_of (places_of (arms_of query.items)) query.items)
      ≡ (has_literals (places_of (arms_of query.items)) row && is_binding relations query.items (places_of (arms_of query.items)) row)
  constraints_are row wide =
      let ps = places_of (arms_of query.items) in
      list_all-append (constraint_holds relations row) (constraints_from (first_slot ps) 0 ps) (flat_map (item_constraints (first_slot ps)) query.items)
      ∙ (λ i. places_hold relations row (first_slot ps) (first_value ps row) (λ x. first_is ps row x wide) 0 ps row wide (λ k. ap (value_at row) (zero-add k)) i
      && items_hold relations row (first_slot ps) (first_value ps row) (λ x. first_is ps row x wide) query.items whole i)
      ∙ and_assoc (has_literals ps row) (values_agree (first_value ps row) ps row) (list_all (item_holds relations (first_value ps row)) query.items)

  row_meets : (row : List Value) → HasWidth (places_of (arms_of query.items)) row
      → meets relations (normal_query query) row ≡ (has_literals (places_of (arms_of query.items)) row && is_binding relations query.items (places_of (arms_of query.items)) row)
  row_meets row wide =
      shared relations row (arms_of query.items) (constraints_of (places_of (arms_of query.items)) query.items) (constraints_in (places_of (arms_of query.items)) query.items bound)
      ∙ constraints_are row wide

  forest_is : (row : List Value) → HasWidth (places_of (arms_of query.items)) row
      → constructed (normal_query query).template row ≡ made_forest query.template (places_of (arms_of query.items)) row
  forest_is row wide =
      let ps = places_of (arms_of query.items) in
      ap normal (nodes_made row (first_slot ps) (first_value ps row) (λ x. first_is ps row x wide) query.template)

  -- ---- all rows

  pub forests_are : ArmLaw → (world : World) → map (constructed (normal_query query).template) (prod relations (normal_query query) world) ≡ all relations query world
  forests_are arm_law world =
      let arms = arms_of query.items in
      let ps = places_of arms in
      let split = choices_split arm_law world arms in
      let rows = one_of_each (map (shape_rows world) arms) in
      ap (λ v. map (constructed (normal_query query).template) (filter (meets relations (normal_query query)) (one_of_each v))) (rows_stay world (constraints_of ps query.items) 0 arms)
      ∙ ap (map (constructed (normal_query query).template))
      (filters_agree (meets relations (normal_query query)) (λ row. has_literals ps row && is_binding relations query.items ps row) rows
      (each_implied (HasWidth ps) (λ row. meets relations (normal_query query) row ≡ (has_literals ps row && is_binding relations query.items ps row)) row_meets rows split.wide)
      ∙ sym (filter-filter (has_literals ps) (is_binding relations query.items ps) rows)
      ∙ ap (filter (is_binding relations query.items ps)) (sym split.kept))
      ∙ map_agrees (constructed (normal_query query).template) (made_forest query.template ps) (filter (is_binding relations query.items ps) (choices world arms))
      (each_implied (HasWidth ps) (λ row. constructed (normal_query query).template row ≡ made_forest query.template ps row) forest_is (filter (is_binding relations query.items ps) (choices world arms))
      (each-filter (HasWidth ps) (is_binding relations query.items ps) (choices world arms) (choices_wide split)))
    where
      choices_wide : Splits (places_of (arms_of query.items)) (choices world (arms_of query.items)) (one_of_each (map (shape_rows world) (arms_of query.items)))
          → AllByRecursion (HasWidth (places_of (arms_of query.items))) (choices world (arms_of query.items))
      choices_wide split = subst (AllByRecursion (HasWidth (places_of (arms_of query.items)))) (sym split.kept)
          (each-filter (HasWidth (places_of (arms_of query.items))) (has_literals (places_of (arms_of query.items))) (one_of_each (map (shape_rows world) (arms_of query.items))) split.wide)
