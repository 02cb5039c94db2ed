use Rattle.std.proofs.Common.{◌∙◌, ◌&&◌, not, ap, sym, subst}
use Rattle.std.specs.List.{list_any}
use Rattle.std.specs.BTreeMap.{is_at}
use Rattle.ncq_book.specs.Watches.{Watch, is_watch, InstallsFit}
use Rattle.ncq_book.proofs.WatchLaws.{one_less, fits_less, watch_cmp}
use Rattle.ncq_book.proofs.watchers.Watchers.remove.Goals as goal

pub returns : goal.returns
returns c = λ w.
    let watch : Watch = record { file = c.args.file; install = c.args.install } in
    one_less watch c.self.inside.watches.keys c.remove.new.self.keys c.remove.ensures.updates.0 w
    ∙ ap (λ ws. list_any (is_watch w) ws && not (is_watch w watch)) c.self.view_is

pub invariant_of-self : goal.invariant_of-self
invariant_of-self c =
    subst InstallsFit (sym c.remove.ensures.keys)
    (fits_less (is_at (watch_cmp (record { file = c.args.file; install = c.args.install }))) c.self.inside.watches.keys c.self.invariant)
