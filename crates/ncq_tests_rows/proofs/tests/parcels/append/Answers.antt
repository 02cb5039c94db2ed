use Rattle.std.proofs.Common.{◌≡◌, length, sym, subst}
use Rattle.std.specs.List.{AllByRecursion}
use Rattle.std.proofs.lemmas.Result.{on_ok_weaker}
use Rattle.ncq_midfile.specs.declared.signed.SignedRow.{SignedRow}
use Rattle.ncq_midfile.proofs.Parts.{all_push}
use Rattle.ncq_tests_rows.proofs.tests.parcels.append.Goals as goal

pub returns : goal.returns
returns c =
    on_ok_weaker c.append.result
    (λ rows. subst (AllByRecursion (λ (r : SignedRow). length r.row ≡ 1)) (sym rows) (all_push (λ (r : SignedRow). length r.row ≡ 1) c.args.file.now.rows c.args.row c.requires.one c.requires.single))
    c.append.ensures.ok
