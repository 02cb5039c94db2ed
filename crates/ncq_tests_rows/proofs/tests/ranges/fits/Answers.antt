use Rattle.std.proofs.Common.{◌≤◌, refl, subst}
use Rattle.std.specs.List.{AllByRecursion}
use Rattle.std.proofs.lemmas.Bool.{leb-true}
use Rattle.ncq_base.specs.declared.interval.End.TheVariants.{Unbounded}
use Rattle.ncq_midfile.specs.declared.signed.SignedRow.{SignedRow}
use Rattle.ncq_midfile.proofs.Sounds.{all_up}
use Rattle.ncq_tests_rows.proofs.HistoryLaws.{all_within}
use Rattle.ncq_tests_rows.proofs.tests.ranges.fits.Goals as goal

pub returns-then-slot-eq0 : goal.returns-then-slot-eq0
returns-then-slot-eq0 c = λ t.
    let rows = c.args.file.now.rows in
    all_up c.last.result c.args.number (leb-true c.last.result c.args.number t) rows
    (subst (AllByRecursion (λ (r : SignedRow). r.number ≤ c.last.result))
    (all_within c.args.file.now.slot (record { low = Unbounded; high = Unbounded }) refl refl rows c.slot-slot.ensures.numbers) c.last.ensures.rows)
