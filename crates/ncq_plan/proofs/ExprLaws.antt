-- The law of changes, for every expression.
use Rattle.std.proofs.Common.{◌≡◌, ℕ, List, sym, subst}
use Rattle.ncq_base.specs.declared.atom.Atom.{Atom}
use Rattle.ncq_row.specs.declared.shape.Shape.{Shape}
use Rattle.ncq_row.specs.Embeddings.{Row}
use Rattle.ncq_base.specs.declared.interval.Interval.{Interval}
use Rattle.ncq_row.specs.declared.pair.Pair.{Pair}
use Rattle.ncq_plan.specs.declared.expr.Expr.{Expr}
use Rattle.ncq_plan.specs.declared.expr.Expr.TheVariants.{Scan, EqSel, RangeSel, Join}
use Rattle.ncq_plan.specs.Meets.{has_atom, is_within}
use Rattle.ncq_plan.specs.Exprs.{World, rows_in}
use Rattle.ncq_plan.specs.Totals.{SignedRow, LeadsTo}
use Rattle.ncq_plan.specs.Deltas.{ScanDeltas, delta_of, ScansLead}
use Rattle.ncq_plan.proofs.DeltaLaws.{select_leads, join_leads}
use Rattle.ncq_plan.proofs.ExprCases.{expr_induction}
use Rattle.ncq_plan.proofs.ExprRows.{rows_scan, rows_equal, rows_range, rows_join, delta_scan, delta_equal, delta_range, delta_join}

-- what leads somewhere leads there by other names for the same rows
by_equations : {before before' after after' : List Row} {delta delta' : List SignedRow} → before ≡ before' → delta ≡ delta' → after ≡ after' → LeadsTo before' delta' after' → LeadsTo before delta after
by_equations b d a leads = subst (λ (t : List Row × List SignedRow × List Row). LeadsTo t.0 t.1 t.2) (λ i. (sym b i, sym d i, sym a i)) leads

module _ (before after : World) (scans : ScanDeltas) (lead : ScansLead before after scans) where
  abbrev Leads : Expr → Type 0
  Leads expr = LeadsTo (rows_in expr before) (delta_of before after scans expr) (rows_in expr after)

  of_scan : (source : List ℕ) (shape : Shape) → Leads (Scan source shape)
  of_scan source shape = by_equations (rows_scan before source shape) (delta_scan before after scans source shape) (rows_scan after source shape) (lead source shape)

  of_equal : (input : Expr) (slot : ℕ) (constant : Atom) → Leads input → Leads (EqSel input slot constant)
  of_equal input slot constant leads =
      by_equations (rows_equal before input slot constant) (delta_equal before after scans input slot constant) (rows_equal after input slot constant)
      (select_leads (has_atom slot constant) (rows_in input before) (rows_in input after) (delta_of before after scans input) leads)

  of_range : (input : Expr) (slot : ℕ) (interval : Interval) → Leads input → Leads (RangeSel input slot interval)
  of_range input slot interval leads =
      by_equations (rows_range before input slot interval) (delta_range before after scans input slot interval) (rows_range after input slot interval)
      (select_leads (is_within slot interval) (rows_in input before) (rows_in input after) (delta_of before after scans input) leads)

  of_join : (left right : Expr) (pairs : List Pair) → Leads left → Leads right → Leads (Join left right pairs)
  of_join left right pairs l r =
      by_equations (rows_join before left right pairs) (delta_join before after scans left right pairs) (rows_join after left right pairs)
      (join_leads pairs (rows_in left before) (rows_in left after) (rows_in right before) (rows_in right after) (delta_of before after scans left) (delta_of before after scans right) l r)

pub deltas_lead : (before after : World) (scans : ScanDeltas) → ScansLead before after scans → (expr : Expr)
    → LeadsTo (rows_in expr before) (delta_of before after scans expr) (rows_in expr after)
deltas_lead before after scans lead =
    expr_induction (Leads before after scans lead) (of_scan before after scans lead) (of_equal before after scans lead) (of_range before after scans lead) (of_join before after scans lead)
