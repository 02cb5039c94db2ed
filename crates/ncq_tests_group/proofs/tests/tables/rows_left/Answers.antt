use Rattle.std.proofs.Common.{◌≤◌, sym, subst}
use Rattle.ncq_midfile.specs.Content.{IsSoundAt}
use Rattle.ncq_midfile.specs.Files.{FileState}
use Rattle.ncq_midfile.specs.Shown.{shown}
use Rattle.ncq_tests_group.proofs.TableLaws.{stands_sound}
use Rattle.ncq_tests_group.proofs.tests.tables.rows_left.Goals as goal

pub file-requires : goal.file-requires
file-requires g c = c.expect_there.ensures

pub content_at-requires-clause-base : goal.content_at-requires-clause-base
content_at-requires-clause-base g c =
    let there = c.expect_there.ensures in
    subst (λ n. (shown c.file.result).base ≤ n) (sym c.number.ensures)
    (subst (λ (f : FileState). f.base ≤ c.args.table.now.number) (sym (c.file.ensures.content there.file there.at)) (c.facts.ensures.facts.up_to c.args.file there.file there.at).base)

pub content_at-requires-clause-sound : goal.content_at-requires-clause-sound
content_at-requires-clause-sound g c =
    let there = c.expect_there.ensures in
    subst (λ n. IsSoundAt n (shown c.file.result).rows) (sym c.number.ensures)
    (subst (λ (f : FileState). IsSoundAt c.args.table.now.number f.rows) (sym (c.file.ensures.content there.file there.at)) (stands_sound c.args.store.now c.args.table.now c.requires c.args.file there.file there.at))
