-- The laws that tie a query to its normal query.
use Rattle.std.specs.Prelude.{◌≡◌, ◌≢◌, true, Result, Ok, Err, map}
use Rattle.std.specs.List.{filter, list_all}
use Rattle.ncq_tree.specs.declared.model.Element.{Element}
use Rattle.ncq_pyx.specs.Canonical.{is_proper}
use Rattle.ncq_path.specs.Formed.{is_formed}
use Rattle.ncq_row.specs.Embeddings.{rows_of}
use Rattle.ncq_row.specs.Formed.{shape_is_formed}
use Rattle.ncq_plan.specs.declared.query.NormalQuery.{NormalQuery}
use Rattle.ncq_plan.specs.Exprs.{World, rows_in}
use Rattle.ncq_plan.specs.Plans.{plan_of}
use Rattle.ncq_plan.specs.Products.{prod}
use Rattle.ncq_plan.specs.Relations.{Relations}
use Rattle.ncq_plan.specs.Residuals.{passes}
use Rattle.ncq_plan.specs.Templates.{constructed}
use Rattle.ncq_construct.specs.Proper.{WorldIsProper}
use Rattle.ncq_xmlql.specs.declared.model.Pattern.{Pattern}
use Rattle.ncq_xmlql.specs.declared.model.Query.{Query}
use Rattle.ncq_xmlql.specs.declared.model.Statement.{Statement}
use Rattle.ncq_xmlql.specs.ItemReading.{is_variable}
use Rattle.ncq_xmlql.specs.PatternPaths.{pattern_paths}
use Rattle.ncq_xmlql.specs.WellFormed.{IsWellFormed, item_is_whole}
use Rattle.ncq_bind.specs.declared.binding.BindError.{BindError}
use Rattle.ncq_bind.specs.declared.binding.BindError.TheVariants.{OutOfMemory}
use Rattle.ncq_bind.specs.Places.{places, shape_of}
use Rattle.ncq_bind.specs.Embeddings.{embeddings, has_literals}
use Rattle.ncq_bind.specs.Answers.{arms_of, places_of, all, answer}
use Rattle.ncq_bind.specs.Bound.{item_is_bound}
use Rattle.ncq_bind.specs.NormalQueries.{normal_query}
use Rattle.ncq_bind.specs.Bindings.{Binds, Roots}

-- The embeddings of a pattern are those rows of its shape that have each literal's atom at the
-- literal's place.
abbrev pub ArmLaw : Type 0
ArmLaw =
    (p : Pattern) (e : Element)
    → embeddings p e ≡ filter (has_literals (places p)) (rows_of (shape_of p) e)

-- The embeddings of a pattern without literals are the rows of its shape.
abbrev pub OpenLaw : Type 0
OpenLaw =
    (p : Pattern) (e : Element) → list_all is_variable (places p) ≡ true
    → embeddings p e ≡ rows_of (shape_of p) e

-- The shape of a pattern is well formed exactly where each path of the pattern is.
abbrev pub FormedLaw : Type 0
FormedLaw = (p : Pattern) → shape_is_formed (shape_of p) ≡ pattern_paths is_formed p

-- Where each condition has a variable and all of them have places, the forests of the normal
-- query's rows are all that the query answers.
abbrev pub JoiningLaw : Type 0
JoiningLaw =
    (relations : Relations) (query : Query) (world : World)
    → list_all item_is_whole query.items ≡ true
    → list_all (item_is_bound (places_of (arms_of query.items))) query.items ≡ true
    → map (constructed (normal_query query).template) (prod relations (normal_query query) world)
    ≡ all relations query world

-- For every statement that binds and every world, the forests made of the rows of the plan that
-- pass the residual are all that its query answers.
abbrev pub PlanLaw : Type 0
PlanLaw =
    (relations : Relations) (statement : Statement) (roots : Roots) (normal : NormalQuery)
    → IsWellFormed statement → Binds relations statement.query roots (Ok normal)
    → (world : World) → map (constructed normal.template)
    (filter (passes relations normal.residual) (rows_in (plan_of normal) world))
    ≡ all relations statement.query world

-- For every statement that binds and every world of proper elements, each forest of all that its
-- query answers is proper, and so is each of the answer.
abbrev pub ProperLaw : Type 0
ProperLaw =
    (relations : Relations) (statement : Statement) (roots : Roots) (normal : NormalQuery)
    → IsWellFormed statement → Binds relations statement.query roots (Ok normal)
    → (world : World) → WorldIsProper world
    → (list_all is_proper (all relations statement.query world) ≡ true)
    × (list_all is_proper (answer relations statement.query world) ≡ true)

-- No two answers of `bind` are right for one query, but for want of memory.
abbrev pub OneAnswer : Type 0
OneAnswer =
    (relations : Relations) (query : Query) (roots : Roots) (a b : Result NormalQuery BindError)
    → Binds relations query roots a → Binds relations query roots b
    → a ≢ Err OutOfMemory → b ≢ Err OutOfMemory → a ≡ b
