use Rattle.std.proofs.Common.{sym, subst, ◌∙◌, arith}
use Rattle.ncq_plan.specs.WellFormed.{IsWellFormedExpr}
use Rattle.ncq_plan.proofs.PlanFits.{plan_is_well_formed}
use Rattle.ncq_tests_group.proofs.TableLaws.{fits_at_first, stands_installed, uses_at_first}
use Rattle.ncq_tests_group.proofs.tests.tables.table_of.Goals as goal

pub install-requires-clause-formed : goal.install-requires-clause-formed
install-requires-clause-formed g c = subst IsWellFormedExpr (sym c.in_ok-plan.ensures) (plan_is_well_formed c.in_ok-query.query c.in_ok-query.ensures)

pub install-requires-clause-number : goal.install-requires-clause-number
install-requires-clause-number g c = c.expect_start.ensures ∙ sym c.new-table.ensures.number

pub install-requires-clause-fits : goal.install-requires-clause-fits
install-requires-clause-fits g c = fits_at_first _ _ _ c.new-table.ensures.files

pub install-requires-clause-uses : goal.install-requires-clause-uses
install-requires-clause-uses g c = uses_at_first _ c.new-table.ensures.files

pub install-requires-clause-room : goal.install-requires-clause-room
install-requires-clause-room g c = let none = c.new-table.ensures.next_file in omega (arith, none)

pub returns : goal.returns
returns g c =
    stands_installed c.args.store.now c.in_ok-plan.plan c.new-table.result c.install.new.self c.in_ok-file.file.0 c.new-table.ensures.next_file
    (c.expect_start.ensures ∙ sym c.new-table.ensures.number) c.in_ok-file.ensures.ok c.in_ok-file.ensures.fits
