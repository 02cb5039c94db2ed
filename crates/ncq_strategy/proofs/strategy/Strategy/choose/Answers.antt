use Rattle.std.proofs.Common.{◌≡◌, Some, sym, ◌∙◌}
use Rattle.std.specs.Map.{lookup_key}
use Rattle.std.proofs.lemmas.Map.Made.{lookup_key_passes}
use Rattle.ncq_base.specs.Exact.{exact_is}
use Rattle.ncq_plan.specs.contracts.expr.Expr.{the_row as expr_row}
use Rattle.ncq_plan.specs.declared.expr.Expr.{Expr}
use Rattle.ncq_plan.specs.ExprLists.{is_expr}
use Rattle.ncq_strategy.specs.Numbers.{Numbers}
use Rattle.ncq_strategy.proofs.strategy.Strategy.choose.Goals as goal

same : (bare kept : Expr) (numbers : Numbers) → lookup_key (is_expr bare) numbers ≡ Some kept → kept ≡ bare
same bare kept numbers found = sym (exact_is expr_row.coded bare kept (lookup_key_passes (is_expr bare) numbers kept found))

pub returns-then-live-lt-SHARED-clause-bare : goal.returns-then-live-lt-SHARED-clause-bare
returns-then-live-lt-SHARED-clause-bare c = c.in_ok-share.ensures ∙ same c.args.bare c.in-Some.shared.now c.self.inside.numbers.entries (sym c.in-Some.ensures.key)

pub returns-clause-bare : goal.returns-clause-bare
returns-clause-bare c = c.in_ok-share-2.ensures ∙ same c.args.bare c.in-Some.shared.now c.self.inside.numbers.entries (sym c.in-Some.ensures.key)
