use Rattle.std.proofs.Common.{◌≡◌, ◌≤◌, ◌++◌, ◌∷◌, [], ℕ, List, length, refl, sym, ap, ◌∙◌, subst}
use Rattle.std.specs.List.{AllByRecursion}
use Rattle.std.proofs.lemmas.Result.{on_ok_weaker}
use Rattle.ncq_midfile.specs.Content.{Row, IsSound}
use Rattle.ncq_midfile.specs.Made.{lost_at}
use Rattle.ncq_midfile.specs.Views.{HasNumber}
use Rattle.ncq_midfile.specs.declared.signed.SignedRow.{SignedRow}
use Rattle.ncq_midfile.proofs.Parts.{all_push}
use Rattle.ncq_midfile.proofs.Sounds.{all_up, sound_pair}
use Rattle.ncq_tests_rows.proofs.tests.views.add_both.Goals as goal

pub add-requires-2-clause-number : goal.add-requires-2-clause-number
add-requires-2-clause-number c =
    subst (λ (slot : ℕ). HasNumber slot c.args.gone.row) (sym c.add.ensures.slot)
    (subst (λ (row : Row). HasNumber c.args.file.now.slot row) (sym (ap (λ (s : SignedRow). s.row) c.requires.gone)) c.requires.number)

pub add-requires-2-clause-last : goal.add-requires-2-clause-last
add-requires-2-clause-last c =
    subst (AllByRecursion (λ r. r.number ≤ c.args.gone.number)) (sym c.in_ok-add.ensures.ok)
    (all_push (λ (r : SignedRow). r.number ≤ c.args.gone.number) c.args.file.now.rows c.args.come
    (all_up c.args.come.number c.args.gone.number c.requires.later c.args.file.now.rows c.requires.last) c.requires.later)

pub returns-clause-sound : goal.returns-clause-sound
returns-clause-sound c =
    on_ok_weaker c.add-2.result
    (λ rows.
    subst IsSound
    (sym (rows ∙ ap (λ (s : SignedRow). c.add.new.self.rows ++ s ∷ []) c.requires.gone
    ∙ ap (λ (rs : List SignedRow). rs ++ lost_at c.args.gone.number c.args.come.row ∷ []) (c.in_ok-add.ensures.ok ∙ ap (λ (s : SignedRow). c.args.file.now.rows ++ s ∷ []) c.requires.come)))
    (sound_pair c.args.file.now.rows c.args.come.number c.args.gone.number c.args.come.row c.requires.later c.requires.sound))
    c.add-2.ensures.ok

pub returns-clause-wide : goal.returns-clause-wide
returns-clause-wide c =
    let first = subst (AllByRecursion (λ (r : SignedRow). length r.row ≡ length c.args.come.row)) (sym c.in_ok-add.ensures.ok)
    (all_push (λ (r : SignedRow). length r.row ≡ length c.args.come.row) c.args.file.now.rows c.args.come c.requires.wide refl) in
    on_ok_weaker c.add-2.result
    (λ rows. subst (AllByRecursion (λ (r : SignedRow). length r.row ≡ length c.args.come.row)) (sym rows)
    (all_push (λ (r : SignedRow). length r.row ≡ length c.args.come.row) c.add.new.self.rows c.args.gone first (ap (λ (s : SignedRow). length s.row) c.requires.gone)))
    c.add-2.ensures.ok
