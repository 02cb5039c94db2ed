use Rattle.std.proofs.Common.{sym, ap, ◌∙◌}
use Rattle.std.specs.FinMap.{len}
use Rattle.ncq_shelf.proofs.Sizes.{len_shown}
use Rattle.ncq_shelf.proofs.shelf.Shelf.len.Goals as goal

pub returns : goal.returns
returns c = c.len.ensures.len ∙ sym (len_shown c.self.inside.groups.entries c.self.inside.files.entries c.len.ensures.unique) ∙ ap len c.self.view_is
