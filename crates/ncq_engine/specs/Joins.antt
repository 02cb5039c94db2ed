-- A subscription that a create makes, where nothing refuses it.
use Rattle.std.specs.Prelude.{◌≡◌, ◌<◌, ℕ, false, Ok, Some, length}
use Rattle.std.specs.List.{list_any}
use Rattle.std.specs.Str.{bytes_eq}
use Rattle.ncq_bind.specs.Bindings.{Binds, roots_in}
use Rattle.ncq_book.specs.declared.subscription.Subscription.{Subscription as Kept}
use Rattle.ncq_book.specs.Books.{alike}
use Rattle.ncq_event.specs.declared.timing.Timing.{Timing}
use Rattle.ncq_event.specs.Instants.{is_expired}
use Rattle.ncq_plan.specs.Late.{bare_of}
use Rattle.ncq_plan.specs.WellFormed.{IsWellFormed}
use Rattle.ncq_xmlql.specs.declared.model.Statement.{Statement}
use Rattle.ncq_xmlql.specs.WellFormed.{IsWellFormed as IsWhole}
use Rattle.ncq_engine.specs.Applies.{kind_at}
use Rattle.ncq_engine.specs.Engines.{new_subscription}
use Rattle.ncq_engine.specs.History.{start_of}
use Rattle.ncq_engine.specs.Notices.{kind_in, name_at}
use Rattle.ncq_engine.specs.Output.{is_at_odds}
use Rattle.ncq_engine.specs.Stands.{EngineState}

-- the timing of a statement that is created at this instant
abbrev pub timed : Statement → ℕ → Timing
timed statement clock = record {
  start = start_of statement.start clock;
  every = statement.every;
  expire = statement.expire;
}

-- the subscription is the one that the statement makes now, and nothing refuses the statement
pub record IsSubscriptionOf (e : EngineState) (statement : Statement) (m : Kept) : Type 0 where
  pub whole : IsWhole statement
  pub binds : Binds e.handed.relations statement.query (roots_in e.store) (Ok m.query)
  pub formed : IsWellFormed m.query
  pub within : m.action < length e.handed.labels
  pub kind : kind_at e.handed.labels m.action
      ≡ kind_in statement.action e.handed.labels
  pub action : name_at e.handed.labels m.action ≡ Some statement.action
  pub fitting : is_at_odds (kind_in statement.action e.handed.labels) statement.argument ≡ false
  pub free : list_any (λ n. bytes_eq statement.name n.name) e.subscriptions ≡ false
  pub timely : is_expired (timed statement e.clock) (timed statement e.clock).start ≡ false
  pub made : m
      ≡ new_subscription statement m.query (alike (bare_of m.query) e.subscriptions)
      (timed statement e.clock) m.action e.creates m.file

-- it holds of each statement that the subscription is of
abbrev pub OfStatement : EngineState → Kept → (Statement → Type 0) → Type 0
OfStatement engine m holds =
    (statement : Statement) → IsSubscriptionOf engine statement m → holds statement
