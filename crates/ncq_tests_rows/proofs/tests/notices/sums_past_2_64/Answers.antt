use Rattle.std.proofs.Common.{refl}
use Rattle.std.specs.Fmt.{digits}
use Rattle.ncq_callback.specs.Texts.{render}
use Rattle.ncq_tests_rows.proofs.tests.notices.sums_past_2_64.Goals as goal

pub returns : goal.returns
unfolding digits render
returns c = refl
