use Rattle.std.proofs.Common.{ℕ, sym, subst}
use Rattle.std.specs.List.{AllByRecursion}
use Rattle.ncq_base.specs.declared.atom.FileId.{FileId}
use Rattle.ncq_base.specs.declared.interval.Interval.{Interval}
use Rattle.ncq_shelf.specs.Ranges.{NoneSelects, SelectsRange}
use Rattle.ncq_shelf.specs.Readers.{IsAmong}
use Rattle.ncq_shelf.specs.Stands.{IsThere}
use Rattle.ncq_shelf.proofs.HeldBy.{Table}
use Rattle.ncq_shelf.proofs.SlotFiles.{absent_none, if_none_by, if_none_so, if_some_by, numbers_in, table_all, table_none, table_there}
use Rattle.ncq_shelf.proofs.shelf.Shelf.range_table.Goals as goal

pub returns-in_err-input-clause-none : goal.returns-in_err-input-clause-none
returns-in_err-input-clause-none c =
    if_none_so c.from_residual.result _ (subst (λ f. NoneSelects f c.args.group.input c.args.group.slot) c.self.view_is
    (absent_none c.self.inside.groups.entries c.self.inside.files.entries c.self.inside.numbers.entries c.self.inside.scans.entries c.self.invariant.shelved c.args.group.input c.args.group.slot (sym c.in_err-input.ensures.value)))

pub returns-clause-there : goal.returns-clause-there
returns-clause-there c =
    if_some_by c.range_table.result _ _ c.range_table.ensures.table (λ (table : Table). AllByRecursion (λ (e : Interval × FileId). IsThere c.args.self.now e.1.0) table)
    (λ table found. subst (λ f. AllByRecursion (λ (e : Interval × FileId). IsThere f e.1.0) table) c.self.view_is
    (table_there c.self.inside.groups.entries c.self.inside.files.entries c.self.inside.numbers.entries c.self.inside.scans.entries c.self.invariant.shelved c.args.group.input c.in_ok-input.input.now (sym c.in_ok-input.ensures.value) c.args.group.slot c.range_table.ensures.tables table found))

pub returns-clause-all : goal.returns-clause-all
returns-clause-all c =
    if_some_by c.range_table.result _ _ c.range_table.ensures.table (λ (table : Table). (interval : Interval) (number : ℕ) → SelectsRange c.args.self.now c.args.group.input c.args.group.slot interval number → IsAmong number (numbers_in table))
    (λ table found. subst (λ f. (interval : Interval) (number : ℕ) → SelectsRange f c.args.group.input c.args.group.slot interval number → IsAmong number (numbers_in table)) c.self.view_is
    (table_all c.self.inside.groups.entries c.self.inside.files.entries c.self.inside.numbers.entries c.self.inside.scans.entries c.self.invariant.shelved c.args.group.input c.in_ok-input.input.now (sym c.in_ok-input.ensures.value) c.args.group.slot table found))

pub returns-clause-none : goal.returns-clause-none
returns-clause-none c =
    if_none_by c.range_table.result _ _ c.range_table.ensures.table _
    (λ none. subst (λ f. NoneSelects f c.args.group.input c.args.group.slot) c.self.view_is
    (table_none c.self.inside.groups.entries c.self.inside.files.entries c.self.inside.numbers.entries c.self.inside.scans.entries c.self.invariant.shelved c.args.group.input c.in_ok-input.input.now (sym c.in_ok-input.ensures.value) c.args.group.slot none))
