use Rattle.std.proofs.Common.{◌∙◌, ◌||◌, ap, sym, subst, arith}
use Rattle.std.specs.List.{list_any}
use Rattle.ncq_book.specs.Watches.{Watch, is_watch, InstallsFit}
use Rattle.ncq_book.proofs.WatchLaws.{one_more, fits_more}
use Rattle.ncq_book.proofs.watchers.Watchers.add.Goals as goal

pub returns-clause-ok : goal.returns-clause-ok
returns-clause-ok c = λ w.
    let watch : Watch = record { file = c.args.file; install = c.args.install } in
    one_more watch c.self.inside.watches.keys c.insert.new.self.keys c.in_ok-insert.ensures.updates.0 w
    ∙ ap (λ ws. list_any (is_watch w) ws || is_watch w watch) c.self.view_is

pub invariant_of-self : goal.invariant_of-self
invariant_of-self c = subst InstallsFit (sym c.in_err-insert.ensures.err) c.self.invariant

pub invariant_of-self-2 : goal.invariant_of-self-2
invariant_of-self-2 c =
    subst InstallsFit (sym c.in_ok-insert.ensures.keys)
    (fits_more (record { file = c.args.file; install = c.args.install }) c.self.inside.watches.keys (let fits = c.ranges.install in omega arith) c.self.invariant)
