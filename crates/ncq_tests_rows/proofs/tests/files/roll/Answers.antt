use Rattle.std.proofs.Common.{◌≡◌, ◌≤◌, length, sym, subst}
use Rattle.std.specs.List.{AllByRecursion}
use Rattle.ncq_midfile.specs.Content.{IsSound}
use Rattle.ncq_midfile.specs.declared.signed.SignedRow.{SignedRow}
use Rattle.ncq_midfile.proofs.Sounds.{all_front, sound_up_to}
use Rattle.ncq_tests_rows.proofs.HistoryLaws.{one_slot, one_up_to}
use Rattle.ncq_tests_rows.proofs.tests.files.roll.Goals as goal

pub returns-clause-last : goal.returns-clause-last
returns-clause-last c = subst (AllByRecursion (λ r. r.number ≤ c.args.n)) (sym c.roll_back.ensures.rows) (all_front c.args.n c.args.file.now.rows)

pub returns-clause-sound : goal.returns-clause-sound
returns-clause-sound c = subst IsSound (sym c.roll_back.ensures.rows) (sound_up_to c.args.n c.args.file.now.rows c.requires.sound)

pub returns-clause-one : goal.returns-clause-one
returns-clause-one c = subst (AllByRecursion (λ (r : SignedRow). length r.row ≡ 1)) (sym c.roll_back.ensures.rows) (one_up_to c.args.n c.args.file.now.rows c.requires.one)

pub returns-clause-wide : goal.returns-clause-wide
returns-clause-wide c = one_slot c.roll_back.new.self.rows (returns-clause-one c)
