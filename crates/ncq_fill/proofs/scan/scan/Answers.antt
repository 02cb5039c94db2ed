use Rattle.std.proofs.Common.{◌≡◌, ◌++◌, List, map, sym, ◌∙◌, ap, subst}
use Rattle.std.specs.Prelude.{Some, None}
use Rattle.std.specs.Option.{option_map}
use Rattle.ncq_base.specs.Counts.{SameCounts}
use Rattle.ncq_row.specs.Embeddings.{Row}
use Rattle.ncq_plan.specs.Exprs.{scan_rows}
use Rattle.ncq_change.specs.Stores.{world_in}
use Rattle.ncq_source.specs.StoreStates.{found}
use Rattle.ncq_source.specs.declared.change.SourceId.{SourceId}
use Rattle.ncq_fill.proofs.ScanLaws.{scan_same, scan_cost, scan_none}
use Rattle.ncq_fill.proofs.scan.scan.Goals as goal

pub returns-in_default-clause-counts : goal.returns-in_default-clause-counts
returns-in_default-clause-counts g c =
    let none : found c.args.store.now c.args.source.now ≡ None =
    ap (found c.args.store.now) (sym c.as_slice.ensures) ∙ sym c.find.ensures ∙ ap (option_map (λ (id : SourceId). id.0)) c.in_default.is in
    subst (λ (r : List Row). SameCounts r (scan_rows c.args.shape.now (world_in c.args.store.now c.args.source.now))) (sym c.new-rows.ensures)
    (scan_none c.args.shape.now c.args.store.now c.args.source.now none)

pub returns-clause-counts : goal.returns-clause-counts
returns-clause-counts g c =
    let here : found c.args.store.now c.args.source.now ≡ Some c.in-Some.id.0 =
    ap (found c.args.store.now) (sym c.as_slice.ensures) ∙ sym c.find.ensures ∙ ap (option_map (λ (id : SourceId). id.0)) c.in-Some.is in
    scan_same c.args.shape.now c.args.store.now c.args.source.now c.in-Some.id.0 here c.append_shown.ensures.shown c.append_shown.new.rows
    (λ source is. c.in_ok-append_shown.ensures.rows source is ∙ ap (λ (r : List Row). r ++ scan_rows c.args.shape.now (map (λ entry. entry.1) source.shown)) c.new-rows.ensures)

pub returns-clause-cost : goal.returns-clause-cost
returns-clause-cost g c =
    let here : found c.args.store.now c.args.source.now ≡ Some c.in-Some.id.0 =
    ap (found c.args.store.now) (sym c.as_slice.ensures) ∙ sym c.find.ensures ∙ ap (option_map (λ (id : SourceId). id.0)) c.in-Some.is in
    scan_cost c.args.shape.now c.args.store.now c.args.source.now c.in-Some.id.0 here c.append_shown.ensures.shown _ _ c.append_shown.ensures.cost

pub returns-in_err-append_shown-clause-cost : goal.returns-in_err-append_shown-clause-cost
returns-in_err-append_shown-clause-cost g c =
    let here : found c.args.store.now c.args.source.now ≡ Some c.in-Some.id.0 =
    ap (found c.args.store.now) (sym c.as_slice.ensures) ∙ sym c.find.ensures ∙ ap (option_map (λ (id : SourceId). id.0)) c.in-Some.is in
    scan_cost c.args.shape.now c.args.store.now c.args.source.now c.in-Some.id.0 here c.append_shown.ensures.shown _ _ c.append_shown.ensures.cost
