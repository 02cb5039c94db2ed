use Rattle.std.proofs.Common.{sym, ◌∙◌, rules}
use Rattle.ncq_shelf.proofs.KeyedLaws.{kept_counted, shown_counted}
use Rattle.ncq_shelf.proofs.shelf.Shelf.drop_unasked.Goals as goal

pub invariant_of-self-then-file-rows : goal.invariant_of-self-then-file-rows
invariant_of-self-then-file-rows c =
    kept_counted c.self.inside.groups.entries c.self.inside.files.entries c.args.number c.in-Some.file.now c.saturating_add-file.result (sym c.in-Some.ensures.value)
    (c.get_mut.follows.lender (record c.in-Some.file.now { rows_lost = c.saturating_add-file.result })).entries ((c.get_mut.follows.holds (record c.in-Some.file.now { rows_lost = c.saturating_add-file.result })).3 (search rules)).0 c.self.inside.numbers.entries c.self.inside.scans.entries c.self.inside.keys c.self.invariant

pub returns-then-file-rows : goal.returns-then-file-rows
returns-then-file-rows c =
    shown_counted c.self.inside.groups.entries c.self.inside.files.entries c.args.number c.in-Some.file.now c.saturating_add-file.result (sym c.in-Some.ensures.value)
    (c.get_mut.follows.lender (record c.in-Some.file.now { rows_lost = c.saturating_add-file.result })).entries ((c.get_mut.follows.holds (record c.in-Some.file.now { rows_lost = c.saturating_add-file.result })).3 (search rules)).0
    ∙ c.self.view_is

pub invariant_of-self-2 : goal.invariant_of-self-2
invariant_of-self-2 c =
    kept_counted c.self.inside.groups.entries c.self.inside.files.entries c.args.number c.in-Some.file.now 0 (sym c.in-Some.ensures.value)
    (c.get_mut.follows.lender (record c.in-Some.file.now { rows_lost = 0 })).entries ((c.get_mut.follows.holds (record c.in-Some.file.now { rows_lost = 0 })).3 (search rules)).0 c.self.inside.numbers.entries c.self.inside.scans.entries c.self.inside.keys c.self.invariant

pub returns : goal.returns
returns c =
    c.drop_unjoined.ensures
    ∙ shown_counted c.self.inside.groups.entries c.self.inside.files.entries c.args.number c.in-Some.file.now 0 (sym c.in-Some.ensures.value)
    (c.get_mut.follows.lender (record c.in-Some.file.now { rows_lost = 0 })).entries ((c.get_mut.follows.holds (record c.in-Some.file.now { rows_lost = 0 })).3 (search rules)).0
    ∙ c.self.view_is
