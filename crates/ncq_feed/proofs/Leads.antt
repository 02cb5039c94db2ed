-- A prepared change leads each expression from its rows in the store to those after it.
use Rattle.std.proofs.Common.{List, refl}
use Rattle.ncq_plan.specs.declared.expr.Expr.{Expr}
use Rattle.ncq_plan.specs.Exprs.{rows_in}
use Rattle.ncq_plan.specs.Totals.{LeadsTo}
use Rattle.ncq_plan.proofs.ExprLaws.{deltas_lead}
use Rattle.ncq_source.specs.StoreStates.{StoreState}
use Rattle.ncq_source.specs.Changes as changes
use Rattle.ncq_source.specs.declared.change.Portion.{Portion}
use Rattle.ncq_change.specs.Entries.{scans_of}
use Rattle.ncq_change.specs.Stores.{entries_in, kept_in, world_in}
use Rattle.ncq_change.proofs.CallerLemmas.{entries_lead}
use Rattle.ncq_feed.specs.Feeds.{IsPreparedFrom, delta_by, world_after}

module _ (store : StoreState) (change : List Portion) (prepared : IsPreparedFrom store change) where
  pub leads : (expr : Expr) → LeadsTo (rows_in expr (world_in store)) (delta_by store change expr) (rows_in expr (world_after store change))
  leads expr =
      deltas_lead (world_in store) (world_after store change) (scans_of (entries_in store change))
      (entries_lead (kept_in store) (λ name. changes.after (kept_in store name) (entries_in store change name)) (entries_in store change)
      (record { chains = prepared.chains; ends = λ name. refl })) expr
