-- What the counts of subscriptions with DISTINCT are.
use Rattle.std.specs.Prelude.{◌≡◌, ℕ, true, List, [], ◌∷◌, map, Option, Some, None}
use Rattle.std.specs.List.{AllByRecursion}
use Rattle.ncq_bag.specs.Bags.{difference}
use Rattle.ncq_bag.specs.Counts.{AreCountsOf}
use Rattle.ncq_bag.specs.declared.bag.Difference.{Difference}
use Rattle.ncq_bind.specs.Answers.{all}
use Rattle.ncq_distinct.specs.DistinctTables.{counts_at, DistinctTable}
use Rattle.ncq_plan.specs.Relations.{Relations}
use Rattle.ncq_pyx.specs.Canonical.{pyx}
use Rattle.ncq_script.specs.declared.command.Command.{Command}
use Rattle.ncq_xmlql.specs.declared.model.Query.{Query}
use Rattle.ncq_engine.specs.Firing.{mark}
use Rattle.ncq_engine.specs.History.{History, Source, Subscription, live, sources, up_to, world}

-- all that a query answers over these sources, each forest by its canonical bytes
abbrev pub all_over : Relations → Query → List Source → List (List ℕ)
all_over relations query sources = map pyx (all relations query (world sources))

-- all that it answers at a mark, and nothing before the first firing
abbrev pub all_at : Relations → Query → History → Option ℕ → List (List ℕ)
all_at relations query history None = []
all_at relations query history (Some number) =
    all_over relations query (sources (up_to number history))

-- what differs in all that a subscription's query answers after the command, from its previous
-- firing on
abbrev pub all_news : Relations → Subscription → History → Command → List Difference
all_news relations s history command =
    difference (all_over relations s.statement.query (sources (command ∷ history)))
    (all_at relations s.statement.query history (mark s history))

-- with DISTINCT, a subscription has the counts of all that its query answered at its mark
abbrev pub IsCounted : Relations → History → DistinctTable → Subscription → Type 0
IsCounted relations history distinct s = s.statement.query.distinct ≡ true
    → AreCountsOf (counts_at distinct s.install)
    (all_at relations s.statement.query history (mark s history))

-- so has each live subscription
abbrev pub AreCounted : Relations → History → DistinctTable → Type 0
AreCounted relations history distinct =
    AllByRecursion (IsCounted relations history distinct) (live history)
