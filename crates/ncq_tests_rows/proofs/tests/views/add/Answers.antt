use Rattle.std.proofs.Common.{◌≡◌, ◌≤◌, length, OnOk, refl, sym, subst}
use Rattle.std.specs.List.{AllByRecursion}
use Rattle.ncq_midfile.specs.declared.signed.SignedRow.{SignedRow}
use Rattle.ncq_tests_rows.proofs.tests.views.add.Goals as goal

pub returns-then-go-come-clause-wide : goal.returns-then-go-come-clause-wide
returns-then-go-come-clause-wide g c =
    subst (λ (s : SignedRow). OnOk c.add_one.result (AllByRecursion (λ r. length r.row ≡ length s.row) c.add_one.new.file.rows)) c.in_ok-first.ensures c.add_one.ensures.wide

pub add_both-requires-clause-last : goal.add_both-requires-clause-last
add_both-requires-clause-last g c = subst (λ (s : SignedRow). AllByRecursion (λ r. r.number ≤ s.number) c.args.file.now.rows) (sym c.in_ok-first.ensures) (c.if-not-fits.ensures refl)

pub add_both-requires-clause-wide : goal.add_both-requires-clause-wide
add_both-requires-clause-wide g c = subst (λ (s : SignedRow). AllByRecursion (λ r. length r.row ≡ length s.row) c.args.file.now.rows) (sym c.in_ok-first.ensures) c.requires.wide

pub returns-clause-wide : goal.returns-clause-wide
returns-clause-wide g c =
    subst (λ (s : SignedRow). OnOk c.add_both.result (AllByRecursion (λ r. length r.row ≡ length s.row) c.add_both.new.file.rows)) c.in_ok-first.ensures c.add_both.ensures.wide
