use Rattle.std.proofs.Common.{length, sym, ◌∙◌}
use Rattle.std.proofs.lemmas.Bool.{eqb-true}
use Rattle.ncq_midfile.proofs.Sounds.{no_items, none_since}
use Rattle.ncq_tests_rows.proofs.tests.histories.fits.Goals as goal

pub returns-then-base-number-clause-last : goal.returns-then-base-number-clause-last
returns-then-base-number-clause-last c = λ t.
    let later = c.rows_since.result.now in
    none_since c.args.number c.args.file.now.rows (sym c.rows_since.ensures ∙ no_items later (eqb-true (length later) 0 (sym c.is_empty.ensures ∙ t)))
