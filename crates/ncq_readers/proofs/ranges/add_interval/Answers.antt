use Rattle.std.proofs.Common.{◌∙◌, ap, sym, subst, Some, List, [], ◌∷◌, ◌++◌}
use Rattle.ncq_base.specs.declared.atom.FileId.{FileId}
use Rattle.ncq_base.specs.declared.interval.Interval.{Interval}
use Rattle.ncq_consttab.specs.Ranges.{is_interval}
use Rattle.ncq_readers.specs.Tables.{AreGroups, IsRangeTable, file_of}
use Rattle.ncq_readers.proofs.GroupLaws.{any_err, kept_after, there, good_in, groups_after, free_in, sets_written, sets_made, turns_from}
use Rattle.ncq_readers.proofs.KeyLaws.{interval_more, interval_alone, good_interval, good_alone}
use Rattle.ncq_readers.proofs.ranges.add_interval.Goals as goal

pub insert-requires : goal.insert-requires
insert-requires c = free_in c.args.groups.now.entries c.args.slot file_of is_interval c.args.interval c.in-Some.table.now (sym c.in-Some.ensures.value) c.requires.free

pub returns-in_err-insert-clause-tables : goal.returns-in_err-insert-clause-tables
returns-in_err-insert-clause-tables c =
    subst (AreGroups IsRangeTable)
    (sym (kept_after c.args.groups.now.entries c.args.slot c.in-Some.table.now c.insert.new.self _ (sym c.in-Some.ensures.value) (c.get_mut.follows.holds c.insert.new.self).0 c.in_err-insert.ensures.err))
    c.requires.tables

pub returns-in_err-insert-clause-err : goal.returns-in_err-insert-clause-err
returns-in_err-insert-clause-err c =
    any_err c.from_residual.result
    (kept_after c.args.groups.now.entries c.args.slot c.in-Some.table.now c.insert.new.self _ (sym c.in-Some.ensures.value) (c.get_mut.follows.holds c.insert.new.self).0 c.in_err-insert.ensures.err)

pub returns-in-Some-clause-tables : goal.returns-in-Some-clause-tables
returns-in-Some-clause-tables c =
    let old = c.args.groups.now.entries in
    let found = sym c.in-Some.ensures.value in
    let holds = c.get_mut.follows.holds c.insert.new.self in
    let free = free_in old c.args.slot file_of is_interval c.args.interval c.in-Some.table.now found c.requires.free in
    let good = good_in old c.args.slot IsRangeTable c.in-Some.table.now c.requires.tables found in
    groups_after old c.args.slot IsRangeTable _ (Some c.insert.new.self) c.requires.tables (holds.3 (there old c.args.slot c.in-Some.table.now found)).0 holds.4
    (subst IsRangeTable (sym c.in_ok-insert.ensures.ok) (good_interval c.in-Some.table.now c.args.interval c.args.file good.0 free))

pub returns-in-Some-clause-ok : goal.returns-in-Some-clause-ok
returns-in-Some-clause-ok c =
    let old = c.args.groups.now.entries in
    let found = sym c.in-Some.ensures.value in
    let holds = c.get_mut.follows.holds c.insert.new.self in
    let free = free_in old c.args.slot file_of is_interval c.args.interval c.in-Some.table.now found c.requires.free in
    sets_written old c.args.slot file_of is_interval c.args.interval (Some c.args.file) _ c.in-Some.table.now c.insert.new.self found (holds.3 (there old c.args.slot c.in-Some.table.now found)).0
    (λ k. ap (λ (t : List (Interval × FileId)). file_of t k) c.in_ok-insert.ensures.ok ∙ interval_more c.in-Some.table.now c.args.interval c.args.file free k)

pub insert-requires-2 : goal.insert-requires-2
insert-requires-2 c = ap (λ (t : List (Interval × FileId)). file_of t c.args.interval) c.new-table.ensures

pub returns-clause-tables : goal.returns-clause-tables
returns-clause-tables c =
    groups_after c.args.groups.now.entries c.args.slot IsRangeTable _ (Some c.insert-2.new.self) c.requires.tables
    (turns_from c.args.groups.now c.get_mut.follows.lender-at-none c.args.slot (Some c.insert-2.new.self) _ c.get_mut.follows.holds-at-none c.in_ok-insert-3.ensures.updates.0)
    c.in_ok-insert-3.ensures.ordered
    (subst IsRangeTable (sym (c.in_ok-insert-2.ensures.ok ∙ ap (λ (t : List (Interval × FileId)). t ++ (c.args.interval, c.args.file) ∷ []) c.new-table.ensures)) (good_alone c.args.interval c.args.file))

pub returns-clause-ok : goal.returns-clause-ok
returns-clause-ok c =
    sets_made c.args.groups.now.entries c.args.slot file_of is_interval c.args.interval (Some c.args.file) _ c.insert-2.new.self (sym c.in_default.ensures.value)
    (turns_from c.args.groups.now c.get_mut.follows.lender-at-none c.args.slot (Some c.insert-2.new.self) _ c.get_mut.follows.holds-at-none c.in_ok-insert-3.ensures.updates.0)
    (λ k. ap (λ (t : List (Interval × FileId)). file_of t k) (c.in_ok-insert-2.ensures.ok ∙ ap (λ (t : List (Interval × FileId)). t ++ (c.args.interval, c.args.file) ∷ []) c.new-table.ensures)
    ∙ interval_alone c.args.interval c.args.file k)
