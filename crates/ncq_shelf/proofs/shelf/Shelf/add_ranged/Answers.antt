use Rattle.std.proofs.Common.{◌≡◌, OnOk, sym, ap, ◌∙◌, subst}
use Rattle.std.specs.FinMap.{insert}
use Rattle.ncq_plan.specs.Exprs.{World}
use Rattle.ncq_plan.specs.WellFormed.{IsWellFormedExpr}
use Rattle.ncq_plan.specs.declared.expr.Expr.TheVariants.{RangeSel}
use Rattle.ncq_shelf.specs.Contents.{Fits, IsNewAt}
use Rattle.ncq_shelf.specs.KeptFiles.{KeptFile}
use Rattle.ncq_shelf.specs.Stands.{Stands}
use Rattle.ncq_shelf.proofs.Arrivals.{input_told, reads_one}
use Rattle.ncq_shelf.proofs.Maps.{one_value}
use Rattle.ncq_shelf.proofs.NewViews.{slot_there}
use Rattle.ncq_shelf.proofs.shelf.Shelf.add_ranged.Goals as goal

pub unreachable-requires-in_default-inputs : goal.unreachable-requires-in_default-inputs
unreachable-requires-in_default-inputs g c = reads_one c.args.self.now c.args.expr.now c.in-RangeSel.input c.in-RangeSel.slot c.in-RangeSel.interval c.in-RangeSel.is c.args.inputs c.requires.inputs (λ n e. c.in_default-inputs.not-One n e)

pub ensure_order-requires-clause-there : goal.ensure_order-requires-clause-there
ensure_order-requires-clause-there g c =
    let s = input_told c.args.self.now c.args.expr.now c.in-RangeSel.input c.in-RangeSel.slot c.in-RangeSel.interval c.args.inputs c.in-One.input c.in-RangeSel.is c.requires.inputs c.in-One.is in
    record { file = s.file; at = s.at }

pub ensure_order-requires-clause-slot : goal.ensure_order-requires-clause-slot
ensure_order-requires-clause-slot g c = λ file at.
    let s = input_told c.args.self.now c.args.expr.now c.in-RangeSel.input c.in-RangeSel.slot c.in-RangeSel.interval c.args.inputs c.in-One.input c.in-RangeSel.is c.requires.inputs c.in-One.is in
    slot_there file.expr c.in-RangeSel.slot c.in-RangeSel.interval
    (subst IsWellFormedExpr (c.in-RangeSel.is ∙ ap (λ e. RangeSel e c.in-RangeSel.slot c.in-RangeSel.interval) (sym s.of ∙ ap (λ (k : KeptFile). k.expr) (one_value s.at at))) c.requires.formed)

pub put_ranged-requires-clause-new : goal.put_ranged-requires-clause-new
put_ranged-requires-clause-new g c = λ other s. c.requires.new other (subst (λ m. Stands m c.args.expr.now other) c.ensure_order.ensures s)

pub returns-clause-ok : goal.returns-clause-ok
returns-clause-ok g c =
    subst (λ m. OnOk c.put_ranged.result ((x : KeptFile) × (c.put_ranged.new.self ≡ insert m c.args.number x) × IsNewAt c.args.change c.args.expr.now x)) c.ensure_order.ensures c.put_ranged.ensures.ok

pub returns-clause-fits : goal.returns-clause-fits
returns-clause-fits g c =
    subst (λ m. OnOk c.put_ranged.result ((world : World) → Fits c.args.change world m → Fits c.args.change world c.put_ranged.new.self)) c.ensure_order.ensures c.put_ranged.ensures.fits
