-- Which plan a subscription has follows from what was live just before its create, and no later command changes it.
use Rattle.std.proofs.Common.{◌≡◌, ℕ, ◌+◌, ◌<◌, ◌≤◌, true, false, cond, List, [], ◌∷◌, map, refl, sym, ◌∙◌, ap, arith}
use Rattle.std.specs.Prelude.{nat_lt, if◌then◌else◌}
use Rattle.std.proofs.lemmas.Bool.Decides.{nat_tests}
use Rattle.ncq_bind.specs.NormalQueries.{normal_query}
use Rattle.ncq_book.specs.Books.{alike}
use Rattle.ncq_book.specs.declared.subscription.Subscription.{Subscription as Kept}
use Rattle.ncq_callback.specs.Labels.{Handed}
use Rattle.ncq_live.specs.LiveTables.{plan_in}
use Rattle.ncq_plan.specs.ExprLists.{is_expr}
use Rattle.ncq_plan.specs.Late.{bare_of}
use Rattle.ncq_plan.specs.declared.expr.Expr.{Expr}
use Rattle.ncq_plan.specs.declared.query.NormalQuery.{NormalQuery}
use Rattle.ncq_script.specs.declared.command.Command.{Command}
use Rattle.ncq_script.specs.declared.command.Command.TheVariants.{Create}
use Rattle.ncq_strategy.specs.Choices.{plan_among, plan_by}
use Rattle.ncq_xmlql.specs.declared.model.Statement.{Statement}
use Rattle.ncq_engine.specs.Engines.{Pairwise}
use Rattle.ncq_engine.specs.History.{History, Subscription, created, creates, live}
use Rattle.ncq_engine.specs.Languages.{language_of}
use Rattle.ncq_engine.specs.Plannings.{alike_before, alike_in, before_create, plan_at}
use Rattle.ncq_engine.specs.Stands.{EngineState, Follows, Keeps}

not_below : (a b : ℕ) → b ≤ a → nat_lt a b ≡ false
not_below a b few = grind (arith, nat_tests)

is_below : (a b : ℕ) → a < b → nat_lt a b ≡ true
is_below a b few = grind (arith, nat_tests)

-- a command behind the create leaves what was before it
before_stays : (install : ℕ) (command : Command) (h : History) → install ≤ creates (command ∷ h) → before_create install (command ∷ h) ≡ before_create install h
before_stays install command h few = λ i. if not_below (creates (command ∷ h)) install few i then command ∷ h else before_create install h

-- of a create that is still to come it is all
before_all : (install : ℕ) (h : History) → creates h < install → before_create install h ≡ h
before_all install [] few = refl
before_all install (command ∷ h) few = λ i. if is_below (creates (command ∷ h)) install few i then command ∷ h else before_create install h

pub alike_stays : (handed : Handed) (s : Subscription) (command : Command) (h : History) → s.install ≤ creates (command ∷ h) → alike_before (language_of handed) (command ∷ h) s ≡ alike_before (language_of handed) h s
alike_stays handed s command h few = ap (λ (g : History). alike_in (language_of handed) (bare_of (normal_query s.statement.query)) (live g)) (before_stays s.install command h few)

-- the one that is created now is planned by those that are live
alike_now : (handed : Handed) (statement : Statement) (h : History) → alike_before (language_of handed) h (created statement h) ≡ alike_in (language_of handed) (bare_of (normal_query statement.query)) (live h)
alike_now handed statement h = ap (λ (g : History). alike_in (language_of handed) (bare_of (normal_query statement.query)) (live g)) (before_all (creates h + 1) h (omega arith))

-- of each bare plan there are as many kept subscriptions as live queries
pub kept_alike : (handed : Handed) (h : History) (bare : Expr) (subs : List Subscription) (ms : List Kept) → Pairwise (Keeps handed h) subs ms → alike bare ms ≡ alike_in (language_of handed) bare subs
kept_alike handed h bare [] [] p = refl
kept_alike handed h bare [] (m ∷ ms) p = absurd p
kept_alike handed h bare (s ∷ subs) [] p = absurd p
kept_alike handed h bare (s ∷ subs) (m ∷ ms) p =
    let is : m.bare ≡ bare_of (normal_query s.statement.query) = p.0.bare ∙ ap bare_of p.0.query in
    λ i. cond (is_expr bare (is i)) 1 0 + kept_alike handed h bare subs ms p.1 i

-- what is kept of a subscription has its plan
pub plan_is : (handed : Handed) (h : History) (s : Subscription) (m : Kept) → Keeps handed h s m → plan_in m ≡ plan_at (language_of handed) h s
plan_is handed h s m k =
    ap (λ choice. plan_by choice m.query) k.choice
    ∙ ap (λ (query : NormalQuery). plan_among query (alike_before (language_of handed) h s)) k.query

-- the plan of a query that comes now
abbrev pub plan_new : EngineState → NormalQuery → Expr
plan_new e query = plan_among query (alike (bare_of query) e.subscriptions)

module _ (e : EngineState) (h : History) (f : Follows e h) (statement : Statement) (query : NormalQuery) (is : query ≡ normal_query statement.query) where
  pub new_alike : alike (bare_of query) e.subscriptions ≡ alike_before (language_of e.handed) h (created statement h)
  new_alike =
      kept_alike e.handed h (bare_of query) (live h) e.subscriptions f.subscriptions
      ∙ ap (λ (q : NormalQuery). alike_in (language_of e.handed) (bare_of q) (live h)) is
      ∙ sym (alike_now e.handed statement h)

  -- it is the plan of the subscription that is created now
  pub new_plan_is : plan_new e query ≡ plan_at (language_of e.handed) (Create statement ∷ h) (created statement h)
  new_plan_is =
      let there : creates h + 1 ≤ creates (Create statement ∷ h) = omega arith in
      (λ i. plan_among (is i) (new_alike i))
      ∙ ap (plan_among (normal_query statement.query)) (sym (alike_stays e.handed (created statement h) (Create statement) h there))
