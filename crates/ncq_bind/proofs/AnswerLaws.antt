-- What is made of the plan's rows is all that the query answers, and it is proper where the elements
-- are.
use Rattle.std.proofs.Common.{◌≡◌, Bool, true, false, not, cond, List, [], ◌∷◌, map, refl, sym, ap, ◌∙◌, subst}
use Rattle.std.specs.List.{filter, list_all}
use Rattle.std.proofs.lemmas.Bool.{and_from}
use Rattle.ncq_tree.specs.declared.model.Node.{Node}
use Rattle.ncq_pyx.specs.Canonical.{is_proper}
use Rattle.ncq_row.specs.Embeddings.{Rows}
use Rattle.ncq_plan.specs.declared.query.NormalQuery.{NormalQuery}
use Rattle.ncq_plan.specs.declared.template.SlotTemplate.{SlotTemplate}
use Rattle.ncq_plan.specs.Exprs.{World, rows_in}
use Rattle.ncq_plan.specs.Plans.{plan_of}
use Rattle.ncq_plan.specs.Relations.{Relations}
use Rattle.ncq_plan.specs.Residuals.{passes}
use Rattle.ncq_plan.specs.Templates.{constructed}
use Rattle.ncq_plan.proofs.CallerLemmas.{plan_gives_the_rows}
use Rattle.ncq_construct.specs.Proper.{row_is_proper, rows_are_proper, template_is_named}
use Rattle.ncq_construct.proofs.ProperLaws.{constructed_is_proper}
use Rattle.ncq_construct.proofs.RowsProper.{expr_rows_are_proper, rows_filter}
use Rattle.ncq_xmlql.specs.declared.model.Query.{Query}
use Rattle.ncq_xmlql.specs.declared.model.Statement.{Statement}
use Rattle.ncq_xmlql.specs.WellFormed.{IsWellFormed}
use Rattle.ncq_bag.specs.Counts.{each_once_by}
use Rattle.ncq_bind.specs.Answers.{arms_of, places_of, all, same_forest, answer}
use Rattle.ncq_bind.specs.Bound.{item_is_bound, query_is_bound, template_is_bound}
use Rattle.ncq_bind.specs.Constraints.{first_slot}
use Rattle.ncq_bind.specs.NormalQueries.{normal_query}
use Rattle.ncq_bind.specs.Laws.{PlanLaw, ProperLaw}
use Rattle.ncq_base.proofs.Tests.{both_true}
use Rattle.ncq_bind.proofs.ArmLaws.{arm_law}
use Rattle.ncq_bind.proofs.BindLaws.{statement_formed}
use Rattle.ncq_bind.proofs.JoiningLaws.{forests_are}
use Rattle.ncq_bind.proofs.NameLaws.{template_named}

-- the plan of a query that is bound gives all that it answers, whatever sources there are
pub bound_answers : (relations : Relations) (statement : Statement) (normal : NormalQuery) → IsWellFormed statement → query_is_bound statement.query ≡ true → normal ≡ normal_query statement.query
    → (world : World) → map (constructed normal.template) (filter (passes relations normal.residual) (rows_in (plan_of normal) world)) ≡ all relations statement.query world
bound_answers relations statement normal whole bound is world =
    let query = statement.query in
    let both = both_true (list_all (item_is_bound (places_of (arms_of query.items))) query.items) (template_is_bound (places_of (arms_of query.items)) query.template) bound in
    subst (λ (n : NormalQuery). map (constructed n.template) (filter (passes relations n.residual) (rows_in (plan_of n) world)) ≡ all relations query world) (sym is)
    (ap (map (constructed (normal_query query).template))
    (plan_gives_the_rows relations (normal_query query) world (statement_formed statement (normal_query query) whole bound refl))
    ∙ forests_are relations query whole.items both.0 arm_law world)

pub plan_answers : PlanLaw
plan_answers relations statement roots normal whole gives world = bound_answers relations statement normal whole gives.bound gives.answer world

pub statement_named : (statement : Statement) (n : NormalQuery) → IsWellFormed statement → n ≡ normal_query statement.query → template_is_named n.template ≡ true
statement_named statement n whole is =
    ap (λ (m : NormalQuery). template_is_named m.template) is
    ∙ template_named (first_slot (places_of (arms_of statement.query.items))) statement.query.template whole.template

each_proper : (template : SlotTemplate) → template_is_named template ≡ true → (rows : Rows) → rows_are_proper rows ≡ true
    → list_all is_proper (map (constructed template) rows) ≡ true
each_proper template named [] h = refl
each_proper template named (row ∷ rows) h =
    let t = both_true (row_is_proper row) (rows_are_proper rows) h in
    and_from _ _ (constructed_is_proper template row named t.0) (each_proper template named rows t.1)

-- what stays of proper forests is proper
proper_left : (stays : List Node → Bool) (forests : List (List Node)) → list_all is_proper forests ≡ true → list_all is_proper (filter stays forests) ≡ true
proper_left stays [] h = refl
proper_left stays (forest ∷ forests) h =
    let t = both_true (is_proper forest) (list_all is_proper forests) h in
    elim (stays forest) as (λ b. list_all is_proper (cond b (forest ∷ filter stays forests) (filter stays forests)) ≡ true) [
      | true ↦ and_from _ _ t.0 (proper_left stays forests t.1)
      | false ↦ proper_left stays forests t.1
    ]

-- so are they, each once
proper_once : (forests : List (List Node)) → list_all is_proper forests ≡ true → list_all is_proper (each_once_by same_forest forests) ≡ true
proper_once [] h = refl
proper_once (forest ∷ forests) h =
    let t = both_true (is_proper forest) (list_all is_proper forests) h in
    and_from _ _ t.0 (proper_left (λ other. not (same_forest forest other)) (each_once_by same_forest forests) (proper_once forests t.1))

proper_asked : (relations : Relations) (query : Query) (world : World) → list_all is_proper (all relations query world) ≡ true
    → list_all is_proper (answer relations query world) ≡ true
proper_asked relations query world h =
    elim query.distinct as (λ b. list_all is_proper (cond b (each_once_by same_forest (all relations query world)) (all relations query world)) ≡ true) [
      | true ↦ proper_once (all relations query world) h
      | false ↦ h
    ]

pub proper_answers : ProperLaw
proper_answers relations statement roots normal whole gives world proper =
    let are_proper =
    ap (list_all is_proper) (sym (plan_answers relations statement roots normal whole gives world))
    ∙ each_proper normal.template (statement_named statement normal whole gives.answer)
    (filter (passes relations normal.residual) (rows_in (plan_of normal) world))
    (rows_filter (passes relations normal.residual) (rows_in (plan_of normal) world) (expr_rows_are_proper world proper (plan_of normal))) in
    (are_proper, proper_asked relations statement.query world are_proper)
