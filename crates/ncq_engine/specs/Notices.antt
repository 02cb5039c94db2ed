-- What a subscription is told, and in which order.
use Rattle.std.specs.Prelude.{ℕ, List, [], ◌∷◌, ◌++◌, map, Option, Some, None, if◌then◌else◌}
use Rattle.std.specs.Prelude.{slice_get}
use Rattle.std.specs.Option.{option_map, unwrap_or}
use Rattle.std.specs.List.{flat_map}
use Rattle.std.specs.Str.{bytes_eq}
use Rattle.ncq_tree.specs.declared.model.Node.{Node}
use Rattle.ncq_pyx.specs.Canonical.{pyx}
use Rattle.ncq_bag.specs.Bags.{difference}
use Rattle.ncq_bag.specs.declared.bag.Difference.{Difference}
use Rattle.ncq_callback.specs.declared.notice.Kind.{Kind}
use Rattle.ncq_callback.specs.Texts.{render}
use Rattle.ncq_xmlql.specs.declared.model.Query.{Query}
use Rattle.ncq_script.specs.declared.command.Command.{Command}
use Rattle.ncq_script.specs.declared.command.Command.TheVariants.{Create}
use Rattle.ncq_script.specs.declared.refusal.Refusal.{Refusal}
use Rattle.ncq_event.specs.declared.firing.Firing.{Firing}
use Rattle.ncq_event.specs.Orders.{ordered_by}
use Rattle.ncq_plan.specs.declared.expr.Expr.{Expr}
use Rattle.ncq_plan.specs.Exprs.{World}
use Rattle.ncq_engine.specs.History.{History, Source, sources, world, up_to, Subscription, created}
use Rattle.ncq_engine.specs.History.{live}
use Rattle.ncq_engine.specs.Firing.{mark, fires}

-- what the history leaves to the crates below: the answer of a query over a world, the refusal of
-- binding a query to the declared sources, the bare plan of a query that binds, its plan where so
-- many live queries have its bare plan, and the kind of the handler of each name
pub record Language : Type 0 where
  pub answer : Query → World → List (List Node)
  pub binding : Query → List Source → Option Refusal
  pub bare : Query → Expr
  pub plan : Query → ℕ → Expr
  pub handlers : List (List ℕ × Kind)

-- the kind of the handler of this name
abbrev pub kind_in : List ℕ → List (List ℕ × Kind) → Option Kind
kind_in name [] = None
kind_in name (handler ∷ more) = if bytes_eq name handler.0 then Some handler.1
    else kind_in name more

-- the name of the handler at a place
abbrev pub name_at : List (List ℕ × Kind) → ℕ → Option (List ℕ)
name_at handlers at = option_map (λ handler. handler.0) (slice_get handlers at)

-- the text of a notice: none where nothing differs
abbrev pub rendered : Option Kind → List ℕ → List ℕ → ℕ → List Difference → List ℕ
rendered kind argument name instant [] = []
rendered None argument name instant (entry ∷ more) = []
rendered (Some kind) argument name instant (entry ∷ more)
    = render kind argument name instant (entry ∷ more)

module _ (language : Language) where
  -- the answer over these sources, each forest by its canonical bytes
  abbrev pub answer_over : Query → List Source → List (List ℕ)
  answer_over query sources = map pyx (language.answer query (world sources))

  -- the answer at a mark, and nothing before the first firing
  abbrev pub answer_at : Query → History → Option ℕ → List (List ℕ)
  answer_at query history None = []
  answer_at query history (Some number) = answer_over query (sources (up_to number history))

  -- what differs in the answer of a subscription after the command, from its previous firing on
  abbrev pub news : Subscription → History → Command → List Difference
  news s before command = difference (answer_over s.statement.query (sources (command ∷ before)))
      (answer_at s.statement.query before (mark s before))

  -- the text of the notice of a subscription that fires at this instant
  abbrev pub notice_at : History → Command → Firing × Subscription → List ℕ
  notice_at before command fired =
      rendered (kind_in fired.1.statement.action language.handlers)
      (unwrap_or fired.1.statement.argument []) fired.1.statement.name fired.0.instant
      (news fired.1 before command)

-- the subscriptions that a command can fire: those that are live, and the one that it creates
abbrev pub with_new : Command → History → List Subscription → List Subscription
with_new (Create statement) before live = live ++ created statement before ∷ []
with_new command before live = live

abbrev pub fired_at : Subscription → Option ℕ → List (Firing × Subscription)
fired_at s None = []
fired_at s (Some instant) = (record { instant = instant; install = s.install }, s) ∷ []

-- the subscriptions that a command fires
abbrev pub firings : History → Command → List (Firing × Subscription)
firings before command = flat_map (λ s. fired_at s (fires s before command))
    (with_new command before (live before))

-- by instant, then by install number
abbrev pub firings_in_order : History → Command → List (Firing × Subscription)
firings_in_order before command = ordered_by (λ fired. fired.0) (firings before command)
