use Rattle.std.proofs.Common.{◌≡◌, ◌<◌, ◌∙◌, ap, sym, arith, Some, None}
use Rattle.std.specs.FinMap.{FinMap, get, len}
use Rattle.std.specs.Ordering.{eq_by_cmp}
use Rattle.ncq_base.specs.Atoms.{atom_cmp}
use Rattle.ncq_base.specs.declared.atom.FileId.{FileId}
use Rattle.ncq_readers.specs.Tables.{IsEqualTable}
use Rattle.ncq_readers.proofs.GroupLaws.{there, groups_after, turned_again, sets_written, sets_emptied}
use Rattle.ncq_readers.proofs.KeyLaws.{constant_less, no_constant}
use Rattle.ncq_readers.proofs.equals.remove_constant.Goals as goal

pub returns-then-len-ne0-clause-tables : goal.returns-then-len-ne0-clause-tables
returns-then-len-ne0-clause-tables c =
    let old = c.args.groups.now.entries in
    let found = sym c.in-Some.ensures.value in
    let holds = c.get_mut.follows.holds c.remove.new.self in
    let is = c.len.ensures in
    let some = c.if-len-ne0.true in
    let left : 0 < len c.remove.new.self = omega arith in
    groups_after old c.args.slot IsEqualTable _ (Some c.remove.new.self) c.requires.tables (holds.3 (there old c.args.slot c.in-Some.table.now found)).0 holds.4 left

pub returns-then-len-ne0-clause-sets : goal.returns-then-len-ne0-clause-sets
returns-then-len-ne0-clause-sets c =
    let old = c.args.groups.now.entries in
    let found = sym c.in-Some.ensures.value in
    let holds = c.get_mut.follows.holds c.remove.new.self in
    sets_written old c.args.slot get (eq_by_cmp atom_cmp) c.args.constant.now None _ c.in-Some.table.now c.remove.new.self found (holds.3 (there old c.args.slot c.in-Some.table.now found)).0
    (λ k. ap (λ (t : FinMap atom_cmp FileId). get t k) c.remove.ensures.gone ∙ constant_less c.in-Some.table.now c.args.constant.now k)

pub returns-clause-tables : goal.returns-clause-tables
returns-clause-tables c =
    let old = c.args.groups.now.entries in
    let found = sym c.in-Some.ensures.value in
    let holds = c.get_mut.follows.holds c.remove.new.self in
    groups_after old c.args.slot IsEqualTable _ None c.requires.tables
    (turned_again old c.args.slot (c.get_mut.follows.lender c.remove.new.self).entries _ (Some c.remove.new.self) None (holds.3 (there old c.args.slot c.in-Some.table.now found)).0 c.remove-2.ensures.updates.0)
    c.remove-2.ensures.ordered tt

pub returns-clause-sets : goal.returns-clause-sets
returns-clause-sets c =
    let old = c.args.groups.now.entries in
    let found = sym c.in-Some.ensures.value in
    let holds = c.get_mut.follows.holds c.remove.new.self in
    let none : len c.remove.new.self ≡ 0 = sym c.len.ensures ∙ c.if-len-ne0.false in
    sets_emptied old c.args.slot get (eq_by_cmp atom_cmp) c.args.constant.now c.in-Some.table.now c.remove.new.self _ found
    (turned_again old c.args.slot (c.get_mut.follows.lender c.remove.new.self).entries _ (Some c.remove.new.self) None (holds.3 (there old c.args.slot c.in-Some.table.now found)).0 c.remove-2.ensures.updates.0)
    (λ k. ap (λ (t : FinMap atom_cmp FileId). get t k) c.remove.ensures.gone ∙ constant_less c.in-Some.table.now c.args.constant.now k)
    (no_constant c.remove.new.self none)
