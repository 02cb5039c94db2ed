use Rattle.std.proofs.Common.{rules, ◌≡◌, ◌++◌, [], append-nil, ap, sym, ◌∙◌, subst}
use Rattle.ncq_consttab.specs.Ranges.{holders}
use Rattle.ncq_consttab.specs.Trees.{fork_entries, node_entries, IsSpanned}
use Rattle.ncq_consttab.proofs.TreeLaws.{none_held}
use Rattle.ncq_consttab.proofs.tree.Tree.+push_takers.Goals as goal

pub returns-then-not-in_interval : goal.returns-then-not-in_interval
returns-then-not-in_interval t c =
    let fork = c.in-Inner.fork.value in
    let value = c.args.value.now in
    let entries : c.args.self.now ≡ fork_entries fork = sym c.self.view_is ∙ ap node_entries c.in-Inner.is in
    let none : holders value (fork_entries fork) ≡ [] = none_held fork.span value (fork_entries fork) (grind rules) (subst IsSpanned c.in-Inner.is c.self.invariant) in
    sym (append-nil c.args.found.now.items) ∙ ap (λ hs. c.args.found.now.items ++ hs) (sym none ∙ ap (holders value) (sym entries))
