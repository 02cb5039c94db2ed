use Rattle.std.proofs.Common.{◌∷◌, [], subst}
use Rattle.std.specs.List.{AllByRecursion}
use Rattle.std.proofs.lemmas.Result.{on_ok_weaker}
use Rattle.ncq_midfile.specs.Content.{IsContent, rows_of}
use Rattle.ncq_midfile.specs.Files.{IsThere}
use Rattle.ncq_midfile.proofs.Sounds.{sound_there}
use Rattle.ncq_midfile.proofs.Wide.{wide_content}
use Rattle.ncq_tests_rows.proofs.HistoryLaws.{left_whole}
use Rattle.ncq_tests_rows.proofs.tests.files.settle.Goals as goal

pub compact-requires-clause-sound : goal.compact-requires-clause-sound
compact-requires-clause-sound c = c.roll.ensures.sound c.args.n

pub returns-clause-sound : goal.returns-clause-sound
returns-clause-sound c =
    let n = c.args.n in
    let old = c.roll.new.file.rows in
    let new = c.compact.new.self.rows in
    on_ok_weaker c.compact.result
    (λ left. sound_there n new (subst (AllByRecursion (IsThere n)) (left_whole n old new c.roll.ensures.last left) left.there))
    c.compact.ensures.left

pub returns-clause-wide : goal.returns-clause-wide
returns-clause-wide c =
    let n = c.args.n in
    let old = c.roll.new.file.rows in
    let new = c.compact.new.self.rows in
    on_ok_weaker c.compact.result
    (λ left. wide_content (0 ∷ []) n old new c.roll.ensures.wide (subst (λ rs. IsContent n old (rows_of rs)) (left_whole n old new c.roll.ensures.last left) left.content))
    c.compact.ensures.left
