use Rattle.std.proofs.Common.{◌∙◌, ap, sym, subst, Some}
use Rattle.std.specs.FinMap.{FinMap, get, insert, get-empty}
use Rattle.std.specs.Ordering.{eq_by_cmp}
use Rattle.ncq_base.specs.Atoms.{atom_cmp}
use Rattle.ncq_base.specs.declared.atom.FileId.{FileId}
use Rattle.ncq_readers.specs.Tables.{AreGroups, IsEqualTable}
use Rattle.ncq_readers.proofs.GroupLaws.{any_err, kept_after, there, groups_after, free_in, sets_written, sets_made, turns_from}
use Rattle.ncq_readers.proofs.KeyLaws.{constant_more, constant_alone, some_constant}
use Rattle.ncq_readers.proofs.equals.add_constant.Goals as goal

pub insert-requires : goal.insert-requires
insert-requires c = free_in c.args.groups.now.entries c.args.slot get (eq_by_cmp atom_cmp) c.args.constant c.in-Some.table.now (sym c.in-Some.ensures.value) c.requires.free

pub returns-in_err-insert-clause-tables : goal.returns-in_err-insert-clause-tables
returns-in_err-insert-clause-tables c =
    subst (AreGroups IsEqualTable)
    (sym (kept_after c.args.groups.now.entries c.args.slot c.in-Some.table.now c.insert.new.self _ (sym c.in-Some.ensures.value) (c.get_mut.follows.holds c.insert.new.self).0 c.in_err-insert.ensures.err))
    c.requires.tables

pub returns-in_err-insert-clause-err : goal.returns-in_err-insert-clause-err
returns-in_err-insert-clause-err c =
    any_err c.from_residual.result
    (kept_after c.args.groups.now.entries c.args.slot c.in-Some.table.now c.insert.new.self _ (sym c.in-Some.ensures.value) (c.get_mut.follows.holds c.insert.new.self).0 c.in_err-insert.ensures.err)

pub returns-in-Some-clause-tables : goal.returns-in-Some-clause-tables
returns-in-Some-clause-tables c =
    let old = c.args.groups.now.entries in
    let found = sym c.in-Some.ensures.value in
    let holds = c.get_mut.follows.holds c.insert.new.self in
    let free = free_in old c.args.slot get (eq_by_cmp atom_cmp) c.args.constant c.in-Some.table.now found c.requires.free in
    groups_after old c.args.slot IsEqualTable _ (Some c.insert.new.self) c.requires.tables (holds.3 (there old c.args.slot c.in-Some.table.now found)).0 holds.4
    (subst IsEqualTable (sym c.in_ok-insert.ensures.ok) (some_constant c.in-Some.table.now c.args.constant c.args.file free))

pub returns-in-Some-clause-ok : goal.returns-in-Some-clause-ok
returns-in-Some-clause-ok c =
    let old = c.args.groups.now.entries in
    let found = sym c.in-Some.ensures.value in
    let holds = c.get_mut.follows.holds c.insert.new.self in
    sets_written old c.args.slot get (eq_by_cmp atom_cmp) c.args.constant (Some c.args.file) _ c.in-Some.table.now c.insert.new.self found (holds.3 (there old c.args.slot c.in-Some.table.now found)).0
    (λ k. ap (λ (t : FinMap atom_cmp FileId). get t k) c.in_ok-insert.ensures.ok ∙ constant_more c.in-Some.table.now c.args.constant c.args.file k)

pub insert-requires-2 : goal.insert-requires-2
insert-requires-2 c = ap (λ (t : FinMap atom_cmp FileId). get t c.args.constant) c.in_ok-table.ensures ∙ get-empty atom_cmp c.args.constant

pub returns-clause-tables : goal.returns-clause-tables
returns-clause-tables c =
    let free = ap (λ (t : FinMap atom_cmp FileId). get t c.args.constant) c.in_ok-table.ensures ∙ get-empty atom_cmp c.args.constant in
    groups_after c.args.groups.now.entries c.args.slot IsEqualTable _ (Some c.insert-2.new.self) c.requires.tables
    (turns_from c.args.groups.now c.get_mut.follows.lender-at-none c.args.slot (Some c.insert-2.new.self) _ c.get_mut.follows.holds-at-none c.in_ok-insert-3.ensures.updates.0)
    c.in_ok-insert-3.ensures.ordered
    (subst IsEqualTable (sym c.in_ok-insert-2.ensures.ok) (some_constant c.in_ok-table.table c.args.constant c.args.file free))

pub returns-clause-ok : goal.returns-clause-ok
returns-clause-ok c =
    sets_made c.args.groups.now.entries c.args.slot get (eq_by_cmp atom_cmp) c.args.constant (Some c.args.file) _ c.insert-2.new.self (sym c.in_default.ensures.value)
    (turns_from c.args.groups.now c.get_mut.follows.lender-at-none c.args.slot (Some c.insert-2.new.self) _ c.get_mut.follows.holds-at-none c.in_ok-insert-3.ensures.updates.0)
    (λ k. ap (λ (t : FinMap atom_cmp FileId). get t k) (c.in_ok-insert-2.ensures.ok ∙ ap (λ (t : FinMap atom_cmp FileId). insert t c.args.constant c.args.file) c.in_ok-table.ensures)
    ∙ constant_alone c.args.constant c.args.file k)
