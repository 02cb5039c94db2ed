use Rattle.std.proofs.Common.{rules, ◌≡◌, ◌||◌, ap, sym, ◌∙◌, subst}
use Rattle.std.specs.List.{list_any}
use Rattle.ncq_base.specs.Intervals.{in_interval}
use Rattle.ncq_consttab.specs.Trees.{fork_entries, node_entries, IsSpanned}
use Rattle.ncq_consttab.proofs.TreeLaws.{span_holds, fork_holds}
use Rattle.ncq_consttab.proofs.tree.Tree.+holds.Goals as goal

pub returns-then-not-in_interval : goal.returns-then-not-in_interval
returns-then-not-in_interval t c =
    let fork = c.in-Inner.fork.value in
    let value = c.args.value.now in
    let entries : c.args.self.now ≡ fork_entries fork = sym c.self.view_is ∙ ap node_entries c.in-Inner.is in
    span_holds fork.span value (fork_entries fork) (grind rules) (subst IsSpanned c.in-Inner.is c.self.invariant) ∙ ap (list_any (λ e. in_interval e.0 value)) (sym entries)
