use Rattle.std.proofs.Common.{◌≡◌, ◌<◌, ◌∙◌, sym, arith, Some, None, length}
use Rattle.ncq_consttab.specs.Ranges.{is_interval}
use Rattle.ncq_readers.specs.Tables.{IsRangeTable, file_of}
use Rattle.ncq_readers.proofs.GroupLaws.{there, good_in, groups_after, turned_again, sets_written, sets_emptied}
use Rattle.ncq_readers.proofs.KeyLaws.{interval_less, no_interval}
use Rattle.ncq_readers.proofs.ranges.remove_interval.Goals as goal

pub returns-then-len-ne0-clause-tables : goal.returns-then-len-ne0-clause-tables
returns-then-len-ne0-clause-tables c =
    let old = c.args.groups.now.entries in
    let found = sym c.in-Some.ensures.value in
    let holds = c.get_mut.follows.holds c.remove.new.self in
    let is = c.len.ensures.len in
    let some = c.if-len-ne0.true in
    let left : 0 < length c.remove.new.self = omega arith in
    groups_after old c.args.slot IsRangeTable _ (Some c.remove.new.self) c.requires.tables (holds.3 (there old c.args.slot c.in-Some.table.now found)).0 holds.4 (c.len.ensures.once, left)

pub returns-then-len-ne0-clause-sets : goal.returns-then-len-ne0-clause-sets
returns-then-len-ne0-clause-sets c =
    let old = c.args.groups.now.entries in
    let found = sym c.in-Some.ensures.value in
    let holds = c.get_mut.follows.holds c.remove.new.self in
    let good = good_in old c.args.slot IsRangeTable c.in-Some.table.now c.requires.tables found in
    sets_written old c.args.slot file_of is_interval c.args.interval.now None _ c.in-Some.table.now c.remove.new.self found (holds.3 (there old c.args.slot c.in-Some.table.now found)).0
    (interval_less c.in-Some.table.now c.args.interval.now c.remove.new.self c.remove.result c.remove.ensures.file c.remove.ensures.gone c.remove.ensures.others c.remove.ensures.none good.0 c.len.ensures.once)

pub returns-clause-tables : goal.returns-clause-tables
returns-clause-tables c =
    let old = c.args.groups.now.entries in
    let found = sym c.in-Some.ensures.value in
    let holds = c.get_mut.follows.holds c.remove.new.self in
    groups_after old c.args.slot IsRangeTable _ None c.requires.tables
    (turned_again old c.args.slot (c.get_mut.follows.lender c.remove.new.self).entries _ (Some c.remove.new.self) None (holds.3 (there old c.args.slot c.in-Some.table.now found)).0 c.remove-2.ensures.updates.0)
    c.remove-2.ensures.ordered tt

pub returns-clause-sets : goal.returns-clause-sets
returns-clause-sets c =
    let old = c.args.groups.now.entries in
    let found = sym c.in-Some.ensures.value in
    let holds = c.get_mut.follows.holds c.remove.new.self in
    let good = good_in old c.args.slot IsRangeTable c.in-Some.table.now c.requires.tables found in
    let none : length c.remove.new.self ≡ 0 = sym c.len.ensures.len ∙ c.if-len-ne0.false in
    sets_emptied old c.args.slot file_of is_interval c.args.interval.now c.in-Some.table.now c.remove.new.self _ found
    (turned_again old c.args.slot (c.get_mut.follows.lender c.remove.new.self).entries _ (Some c.remove.new.self) None (holds.3 (there old c.args.slot c.in-Some.table.now found)).0 c.remove-2.ensures.updates.0)
    (interval_less c.in-Some.table.now c.args.interval.now c.remove.new.self c.remove.result c.remove.ensures.file c.remove.ensures.gone c.remove.ensures.others c.remove.ensures.none good.0 c.len.ensures.once)
    (no_interval c.remove.new.self none)
