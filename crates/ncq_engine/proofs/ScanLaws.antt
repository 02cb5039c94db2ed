-- The plan of a statement's query scans the sources that the statement asks, so the plan alone tells when they last changed.
use Rattle.std.proofs.Common.{◌≡◌, ℕ, ◌+◌, ◌≤◌, max, true, List, [], ◌∷◌, ◌++◌, length, map, refl, sym, ◌∙◌, ap, arith, append_assoc}
use Rattle.std.specs.List.{flat_map, list_all}
use Rattle.std.proofs.lemmas.List.{append-nil, map-append}
use Rattle.ncq_base.proofs.Tests.{both_true}
use Rattle.ncq_bind.specs.Answers.{QueryArm, arm_of, arms_of, places_of}
use Rattle.ncq_bind.specs.Constraints.{constraints_of}
use Rattle.ncq_bind.specs.NormalArms.{normal_arm, open_arms}
use Rattle.ncq_bind.specs.NormalQueries.{normal_query}
use Rattle.ncq_bind.specs.Places.{places}
use Rattle.ncq_bind.specs.declared.constraint.Constraint.{Constraint}
use Rattle.ncq_plan.proofs.CallerLemmas.{fold_scan, fold_equal, fold_range, fold_join}
use Rattle.ncq_plan.specs.Late.{bare_arm, bare_of, equals_from, ranges_from}
use Rattle.ncq_plan.specs.Plans.{arm_plan, arms_plan, plan_of, with_arms, with_equals, with_ranges}
use Rattle.ncq_plan.specs.declared.expr.Expr.{Expr}
use Rattle.ncq_plan.specs.declared.expr.Expr.TheVariants.{Scan, EqSel, RangeSel, Join}
use Rattle.ncq_plan.specs.declared.query.Arm.{Arm}
use Rattle.ncq_plan.specs.declared.query.EqualTo.{EqualTo}
use Rattle.ncq_plan.specs.declared.query.NormalQuery.{NormalQuery}
use Rattle.ncq_plan.specs.declared.query.Within.{Within}
use Rattle.ncq_source.specs.StoreStates.{StoreState}
use Rattle.ncq_strategy.specs.Choices.{plan_by}
use Rattle.ncq_strategy.specs.declared.choice.Choice.{Choice}
use Rattle.ncq_strategy.specs.declared.choice.Choice.TheVariants.{SelectFirst, JoinFirst}
use Rattle.ncq_xmlql.specs.ItemReading.{has_arm}
use Rattle.ncq_xmlql.specs.WellFormed.{IsWellFormed, begins_with_match, item_is_whole}
use Rattle.ncq_xmlql.specs.declared.model.Pattern.{Pattern}
use Rattle.ncq_xmlql.specs.declared.model.QueryItem.{QueryItem}
use Rattle.ncq_xmlql.specs.declared.model.QueryItem.TheVariants.{Match, Condition, Satisfies}
use Rattle.ncq_xmlql.specs.declared.model.Statement.{Statement}
use Rattle.ncq_engine.specs.Engines.{last_in, latest_in}
use Rattle.ncq_engine.specs.Firing.{source_of, sources_of}
use Rattle.ncq_engine.specs.Scans.{scanned_by, scans_step}

-- ---- what a plan scans

equals_scans : (equals : List EqualTo) (input : Expr) → scanned_by (with_equals input equals) ≡ scanned_by input
equals_scans [] input = refl
equals_scans (equal ∷ more) input = equals_scans more (EqSel input equal.slot equal.constant) ∙ fold_equal scans_step input equal.slot equal.constant

ranges_scans : (ranges : List Within) (input : Expr) → scanned_by (with_ranges input ranges) ≡ scanned_by input
ranges_scans [] input = refl
ranges_scans (range ∷ more) input = ranges_scans more (RangeSel input range.slot range.interval) ∙ fold_range scans_step input range.slot range.interval

arm_scans : (arm : Arm) → scanned_by (arm_plan arm) ≡ arm.source ∷ []
arm_scans arm =
    ranges_scans arm.ranges (with_equals (Scan arm.source arm.shape) arm.equals)
    ∙ equals_scans arm.equals (Scan arm.source arm.shape)
    ∙ fold_scan scans_step arm.source arm.shape

joined_scans : (arms : List Arm) (plan : Expr) → scanned_by (with_arms plan arms) ≡ scanned_by plan ++ map (λ arm. arm.source) arms
joined_scans [] plan = sym (append-nil (scanned_by plan))
joined_scans (arm ∷ arms) plan =
    joined_scans arms (Join plan (arm_plan arm) arm.pairs)
    ∙ ap (λ scanned. scanned ++ map (λ arm. arm.source) arms) (fold_join scans_step plan (arm_plan arm) arm.pairs ∙ ap (λ scanned. scanned_by plan ++ scanned) (arm_scans arm))
    ∙ append_assoc (scanned_by plan) (arm.source ∷ []) (map (λ arm. arm.source) arms)

pub scans_are : (arms : List Arm) → 1 ≤ length arms → scanned_by (arms_plan arms) ≡ map (λ arm. arm.source) arms
scans_are [] some = absurd (omega arith)
scans_are (arm ∷ arms) some = joined_scans arms (arm_plan arm) ∙ ap (λ scanned. scanned ++ map (λ arm. arm.source) arms) (arm_scans arm)

-- so it is by either choice
bare_sources : (arms : List Arm) → map (λ arm. arm.source) (map bare_arm arms) ≡ map (λ arm. arm.source) arms
bare_sources [] = refl
bare_sources (arm ∷ arms) = ap (λ names. arm.source ∷ names) (bare_sources arms)

some_bare : (arms : List Arm) → 1 ≤ length arms → 1 ≤ length (map bare_arm arms)
some_bare [] some = absurd (omega arith)
some_bare (arm ∷ arms) some = omega arith

pub either_scans : (choice : Choice) (query : NormalQuery) → 1 ≤ length query.arms → scanned_by (plan_by choice query) ≡ scanned_by (plan_of query)
either_scans SelectFirst query some = refl
either_scans JoinFirst query some =
    ranges_scans (ranges_from 0 query.arms) (with_equals (bare_of query) (equals_from 0 query.arms))
    ∙ equals_scans (equals_from 0 query.arms) (bare_of query)
    ∙ scans_are (map bare_arm query.arms) (some_bare query.arms some)
    ∙ bare_sources query.arms
    ∙ sym (scans_are query.arms some)

-- ---- the sources of a normal query's arms

normal_sources : (constraints : List Constraint) (offset : ℕ) (arms : List QueryArm) → map (λ arm. arm.source) (map (normal_arm constraints) (open_arms offset arms)) ≡ map (λ arm. arm.source) arms
normal_sources constraints offset [] = refl
normal_sources constraints offset (arm ∷ arms) = ap (λ names. arm.source ∷ names) (normal_sources constraints (offset + length (places arm.pattern)) arms)

-- the match that begins the items is whole, so the query has an arm
some_normal_arm : (constraints : List Constraint) (items : List QueryItem) → begins_with_match items ≡ true → list_all item_is_whole items ≡ true
    → 1 ≤ length (map (normal_arm constraints) (open_arms 0 (arms_of items)))
some_normal_arm constraints [] begins whole = absurd cc
some_normal_arm constraints ((Match root [] source) ∷ items) begins whole = absurd cc
some_normal_arm constraints ((Match root (pattern ∷ patterns) source) ∷ items) begins whole = omega arith
some_normal_arm constraints ((Condition left op right) ∷ items) begins whole = absurd cc
some_normal_arm constraints ((Satisfies variable predicate argument) ∷ items) begins whole = absurd cc

-- ---- the greatest of last changes

module _ (store : StoreState) where
  pub latest_append : (a b : List (List ℕ)) → latest_in store (a ++ b) ≡ max (latest_in store a) (latest_in store b)
  latest_append [] b = let e : latest_in store b ≡ max 0 (latest_in store b) = omega arith in e
  latest_append (source ∷ a) b = let rest = latest_append a b in omega (arith, rest)

  -- all arms of a match have its source
  latest_of_more : (source : List ℕ) (patterns : List Pattern) → max (last_in store source) (latest_in store (map (λ arm. arm.source) (map (arm_of source) patterns))) ≡ last_in store source
  latest_of_more source [] = omega arith
  latest_of_more source (pattern ∷ patterns) = let rest = latest_of_more source patterns in omega (arith, rest)

  latest_of_match : (source : List ℕ) (patterns : List Pattern) → has_arm patterns ≡ true → latest_in store (map (λ arm. arm.source) (map (arm_of source) patterns)) ≡ last_in store source
  latest_of_match source [] some = absurd cc
  latest_of_match source (pattern ∷ patterns) some = latest_of_more source patterns

  latest_of_arms : (items : List QueryItem) → list_all item_is_whole items ≡ true → latest_in store (flat_map source_of items) ≡ latest_in store (map (λ arm. arm.source) (arms_of items))
  latest_of_arms [] whole = refl
  latest_of_arms ((Match root patterns source) ∷ items) whole =
      let both = both_true (has_arm patterns) (list_all item_is_whole items) whole in
      (λ i. max (sym (latest_of_match source patterns both.0) i) (latest_of_arms items both.1 i))
      ∙ sym (latest_append (map (λ arm. arm.source) (map (arm_of source) patterns)) (map (λ arm. arm.source) (arms_of items)))
      ∙ ap (latest_in store) (sym (map-append (λ (arm : QueryArm). arm.source) (map (arm_of source) patterns) (arms_of items)))
  latest_of_arms ((Condition left op right) ∷ items) whole = latest_of_arms items (both_true (item_is_whole (Condition left op right)) (list_all item_is_whole items) whole).1
  latest_of_arms ((Satisfies variable predicate argument) ∷ items) whole = latest_of_arms items (both_true (item_is_whole (Satisfies variable predicate argument)) (list_all item_is_whole items) whole).1

-- ---- the laws

-- the sources that a well formed statement asks last changed when those did that its plan scans
pub asked_is : (statement : Statement) → IsWellFormed statement → (store : StoreState) → latest_in store (sources_of statement) ≡ latest_in store (scanned_by (plan_of (normal_query statement.query)))
asked_is statement formed store =
    let items = statement.query.items in
    let constraints = constraints_of (places_of (arms_of items)) items in
    latest_of_arms store items formed.items
    ∙ ap (latest_in store) (sym (normal_sources constraints 0 (arms_of items)))
    ∙ ap (latest_in store) (sym (scans_are (map (normal_arm constraints) (open_arms 0 (arms_of items))) (some_normal_arm constraints items formed.begins formed.items)))

-- where two lists of sources last changed as what one expression scans, they last changed together
pub same_file_same_change : (store : StoreState) (a b : List (List ℕ)) (one two : Expr) → one ≡ two → latest_in store a ≡ latest_in store (scanned_by one) → latest_in store b ≡ latest_in store (scanned_by two)
    → latest_in store a ≡ latest_in store b
same_file_same_change store a b one two same first second = first ∙ ap (λ expr. latest_in store (scanned_by expr)) same ∙ sym second
