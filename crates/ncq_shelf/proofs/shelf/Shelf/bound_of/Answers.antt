use Rattle.std.proofs.Common.{◌≡◌, true, sym, subst}
use Rattle.std.specs.List.{AllByRecursion}
use Rattle.ncq_base.specs.Intervals.{in_interval}
use Rattle.ncq_base.specs.declared.atom.FileId.{FileId}
use Rattle.ncq_shelf.specs.Bounds.{IsBelowBase}
use Rattle.ncq_shelf.proofs.GroupNews.{among_all}
use Rattle.ncq_shelf.proofs.shelf.Shelf.bound_of.Goals as goal

pub returns-then-signed-least : goal.returns-then-signed-least
returns-then-signed-least c = λ number takes. c.requires.least takes.interval number takes.selects

pub returns : goal.returns
returns c = λ number takes.
    let bound = c.least_base.result in
    among_all (IsBelowBase c.args.self.now bound) c.in_ok-takers.takers (subst (AllByRecursion (λ (f : FileId). IsBelowBase c.args.self.now bound f.0)) c.as_slice.ensures c.least_base.ensures) number
    ((c.in_ok-takers.ensures number).1 (record {
      interval = takes.interval;
      selects = takes.selects;
      within = subst (λ a. in_interval takes.interval a ≡ true) (sym c.atom-value.ensures) takes.within;
    }))
