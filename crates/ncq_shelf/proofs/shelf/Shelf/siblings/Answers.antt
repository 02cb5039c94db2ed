use Rattle.std.proofs.Common.{sym, ap, ◌∙◌, subst}
use Rattle.std.specs.List.{AllByRecursion}
use Rattle.std.specs.Prelude.{map}
use Rattle.std.proofs.lemmas.Result.{IfOk-weaker}
use Rattle.ncq_base.specs.declared.atom.FileId.{FileId}
use Rattle.ncq_shelf.specs.Stands.{IsThere}
use Rattle.ncq_shelf.proofs.SlotFiles.{numbers_there}
use Rattle.ncq_shelf.proofs.shelf.Shelf.siblings.Goals as goal

pub returns-in-Some-range_table : goal.returns-in-Some-range_table
returns-in-Some-range_table c = IfOk-weaker c.numbers_of.result _ _ (λ numbers is.
    subst (AllByRecursion (IsThere c.args.self.now)) (sym (is ∙ ap (map (λ (f : FileId). f.0)) c.files.ensures))
    (numbers_there (IsThere c.args.self.now) c.in-Some-range_table.table.now c.in-Some-range_table.ensures.there)) c.numbers_of.ensures
