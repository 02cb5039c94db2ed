use Rattle.std.proofs.Common.{subst}
use Rattle.std.specs.Prelude.{◌≡◌, IsTrue, ◌↔◌}
use Rattle.ncq_base.specs.Exact.{exact_from}
use Rattle.ncq_plan.specs.contracts.expr.Expr.{the_row}
use Rattle.ncq_plan.proofs.expr.RefExprEquivalentSharedExpr.equivalent.Goals as goal

pub returns : goal.returns
returns c =
    exact_from the_row.coded c.args.self.now.now c.args.key.now c.same_expr.result
    (subst (λ e. IsTrue c.same_expr.result ↔ (c.args.self.now.now ≡ e)) c.get.ensures c.same_expr.ensures)
