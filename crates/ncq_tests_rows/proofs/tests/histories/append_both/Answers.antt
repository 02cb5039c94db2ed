use Rattle.std.proofs.Common.{◌≡◌, ◌≤◌, ◌++◌, ◌∷◌, [], List, length, sym, ap, ◌∙◌, subst}
use Rattle.std.specs.List.{AllByRecursion}
use Rattle.std.proofs.lemmas.Result.{on_ok_weaker}
use Rattle.ncq_midfile.specs.Content.{IsSound}
use Rattle.ncq_midfile.specs.Made.{lost_at}
use Rattle.ncq_midfile.specs.declared.signed.SignedRow.{SignedRow}
use Rattle.ncq_midfile.proofs.Parts.{all_push}
use Rattle.ncq_midfile.proofs.Sounds.{all_up, sound_pair}
use Rattle.ncq_tests_rows.proofs.tests.histories.append_both.Goals as goal

pub append-requires-2-clause-last : goal.append-requires-2-clause-last
append-requires-2-clause-last c =
    subst (AllByRecursion (λ r. r.number ≤ c.args.gone.number)) (sym c.in_ok-append.ensures.ok)
    (all_push (λ (r : SignedRow). r.number ≤ c.args.gone.number) c.args.file.now.rows c.args.come
    (all_up c.args.come.number c.args.gone.number c.requires.later c.args.file.now.rows c.requires.last) c.requires.later)

pub returns-clause-sound : goal.returns-clause-sound
returns-clause-sound c =
    on_ok_weaker c.append-2.result
    (λ rows.
    subst IsSound
    (sym (rows ∙ ap (λ (s : SignedRow). c.append.new.self.rows ++ s ∷ []) c.requires.gone
    ∙ ap (λ (rs : List SignedRow). rs ++ lost_at c.args.gone.number c.args.come.row ∷ []) (c.in_ok-append.ensures.ok ∙ ap (λ (s : SignedRow). c.args.file.now.rows ++ s ∷ []) c.requires.come)))
    (sound_pair c.args.file.now.rows c.args.come.number c.args.gone.number c.args.come.row c.requires.later c.requires.sound))
    c.append-2.ensures.ok

pub returns-clause-one : goal.returns-clause-one
returns-clause-one c =
    let first = subst (AllByRecursion (λ (r : SignedRow). length r.row ≡ 1)) (sym c.in_ok-append.ensures.ok)
    (all_push (λ (r : SignedRow). length r.row ≡ 1) c.args.file.now.rows c.args.come c.requires.one c.requires.single) in
    on_ok_weaker c.append-2.result
    (λ rows. subst (AllByRecursion (λ (r : SignedRow). length r.row ≡ 1)) (sym rows)
    (all_push (λ (r : SignedRow). length r.row ≡ 1) c.append.new.self.rows c.args.gone first (ap (λ (s : SignedRow). length s.row) c.requires.gone ∙ c.requires.single)))
    c.append-2.ensures.ok
