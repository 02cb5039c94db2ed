use Rattle.std.proofs.Common.{map, sym, ap, subst}
use Rattle.ncq_base.specs.declared.atom.FileId.{FileId}
use Rattle.ncq_shelf.specs.Bounds.{IsBelowBase}
use Rattle.ncq_shelf.specs.Readers.{IsAmong}
use Rattle.ncq_shelf.proofs.GroupNews.{among_all}
use Rattle.ncq_shelf.proofs.shelf.Shelf.least_of.Goals as goal

pub returns-in-Some : goal.returns-in-Some
returns-in-Some c = λ interval number selects.
    among_all (IsBelowBase c.args.self.now c.least_base.result) c.files.result.now c.least_base.ensures number
    (subst (IsAmong number) (ap (map (λ (f : FileId). f.0)) (sym c.files.ensures)) (c.in-Some.ensures.all interval number selects))

pub returns-in-None : goal.returns-in-None
returns-in-None c = λ interval number selects. absurd (c.in-None.ensures.none interval number selects)
