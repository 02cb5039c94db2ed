-- Which plan a live subscription has: it follows from those that were live when it was created.
use Rattle.std.specs.Prelude.{ℕ, nat_lt, if◌then◌else◌, List, [], ◌∷◌, map}
use Rattle.ncq_base.specs.Keys.{times}
use Rattle.ncq_plan.specs.ExprLists.{is_expr}
use Rattle.ncq_plan.specs.declared.expr.Expr.{Expr}
use Rattle.ncq_engine.specs.History.{History, Subscription, creates, live}
use Rattle.ncq_engine.specs.Notices.{Language}

-- the history just before the create of this install number
abbrev pub before_create : ℕ → History → History
before_create install [] = []
before_create install (command ∷ before) =
    if nat_lt (creates (command ∷ before)) install then command ∷ before
    else before_create install before

module _ (language : Language) where
  -- how many of the subscriptions have a query of this bare plan
  abbrev pub alike_in : Expr → List Subscription → ℕ
  alike_in bare subscriptions =
      times (λ s. is_expr bare (language.bare s.statement.query)) subscriptions

  -- how many live subscriptions had the bare plan of this one just before its create
  abbrev pub alike_before : History → Subscription → ℕ
  alike_before history s =
      alike_in (language.bare s.statement.query) (live (before_create s.install history))

  -- the plan of a subscription: no later command changes it
  abbrev pub plan_at : History → Subscription → Expr
  plan_at history s = language.plan s.statement.query (alike_before history s)

  -- the plans of the live subscriptions
  abbrev pub live_plans : History → List Expr
  live_plans history = map (plan_at history) (live history)
