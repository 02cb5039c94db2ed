-- What the live subscriptions share.
use Rattle.std.specs.Prelude.{◌↔◌, List, map}
use Rattle.ncq_plan.specs.declared.expr.Expr.{Expr}
use Rattle.ncq_shelf.specs.Parts.{IsPartOfOne}
use Rattle.ncq_shelf.specs.Ranges.{ShareRows}
use Rattle.ncq_group.specs.Closure.{IsKept}
use Rattle.ncq_group.specs.Tables.{TableState, Facts}
use Rattle.ncq_book.specs.declared.subscription.Subscription.{Subscription}
use Rattle.ncq_live.specs.LiveTables.{IsLiveTable, plan_in}

-- the files are those of the parts of the subscriptions' plans, one each; selections by intervals
-- of one slot of one file are virtual files over one list of rows, each of which one of them takes;
-- each subscription has the file of its plan, and each file is used by exactly its subscriptions
pub record Shares (subscriptions : List Subscription) (table : TableState) : Type 0 where
  pub kept : (expr : Expr)
      → IsKept table.files expr ↔ IsPartOfOne expr (map plan_in subscriptions)
  pub facts : Facts table
  pub shared : ShareRows table.files
  pub live_table : IsLiveTable table subscriptions
