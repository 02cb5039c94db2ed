use Rattle.std.proofs.Common.{◌≡◌, ◌++◌, ◌∷◌, [], length, refl, sym, ap, ◌∙◌, subst}
use Rattle.std.specs.List.{AllByRecursion}
use Rattle.std.proofs.lemmas.Result.{on_ok_weaker}
use Rattle.ncq_midfile.specs.Content.{IsSound}
use Rattle.ncq_midfile.specs.declared.signed.SignedRow.{SignedRow}
use Rattle.ncq_midfile.proofs.Parts.{all_push}
use Rattle.ncq_midfile.proofs.Sounds.{sound_gain}
use Rattle.ncq_tests_rows.proofs.tests.views.add_one.Goals as goal

pub returns-clause-sound : goal.returns-clause-sound
returns-clause-sound c =
    on_ok_weaker c.add.result
    (λ rows. subst IsSound (sym (rows ∙ ap (λ (s : SignedRow). c.args.file.now.rows ++ s ∷ []) c.requires.come)) (sound_gain c.args.file.now.rows c.args.come.number c.args.come.row c.requires.sound))
    c.add.ensures.ok

pub returns-clause-wide : goal.returns-clause-wide
returns-clause-wide c =
    on_ok_weaker c.add.result
    (λ rows. subst (AllByRecursion (λ (r : SignedRow). length r.row ≡ length c.args.come.row)) (sym rows) (all_push (λ (r : SignedRow). length r.row ≡ length c.args.come.row) c.args.file.now.rows c.args.come c.requires.wide refl))
    c.add.ensures.ok
