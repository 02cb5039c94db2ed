use Rattle.std.proofs.Common.{sym}
use Rattle.std.proofs.lemmas.Bool.{ltb-true}
use Rattle.ncq_live.proofs.live_table.is_told_before.Goals as goal

pub returns-in-Some-noted : goal.returns-in-Some-noted
returns-in-Some-noted c = λ below. record {
  subscription = c.in-Some.subscription.now;
  found = sym c.in-Some.ensures;
  noted = c.in-Some-noted.noted;
  told = c.in-Some-noted.is;
  before = ltb-true c.in-Some-noted.noted c.args.last below;
}
