use Rattle.std.proofs.Common.{◌≤◌, sym, subst}
use Rattle.ncq_midfile.specs.Content.{IsSoundAt}
use Rattle.ncq_shelf.specs.Contents.{IsCompacted}
use Rattle.ncq_tests_group.proofs.TableLaws.{stands_sound, stands_compacted}
use Rattle.ncq_tests_group.proofs.tests.tables.compact.Goals as goal

pub compact-requires-clause-there : goal.compact-requires-clause-there
compact-requires-clause-there g c = c.expect_there.ensures

pub compact-requires-clause-base : goal.compact-requires-clause-base
compact-requires-clause-base g c = λ kept at. subst (λ n. kept.content.base ≤ n) (sym c.number.ensures) (c.facts.ensures.facts.up_to c.args.file kept at).base

pub compact-requires-clause-sound : goal.compact-requires-clause-sound
compact-requires-clause-sound g c = λ kept at.
    subst (λ n. IsSoundAt n kept.content.rows) (sym c.number.ensures) (stands_sound c.args.store.now c.args.table.now c.requires c.args.file kept at)

pub returns : goal.returns
returns g c =
    let there = c.expect_there.ensures in
    let done = c.in_ok-compact.ensures.ok there.file there.at in
    stands_compacted c.args.store.now c.args.table.now c.compact.new.self c.args.file there.file done.0 c.requires there.at done.1
    (subst (λ n. IsCompacted n there.file done.0) c.number.ensures done.2) c.in_ok-compact.ensures.number c.in_ok-compact.ensures.next_file
