use Rattle.std.proofs.Common.{nat_eq}
use Rattle.std.specs.BTreeSet.{contains}
use Rattle.std.specs.List.{list_any}
use Rattle.std.specs.Ordering.{nat_cmp}
use Rattle.ncq_midfile.proofs.FewLaws.{one_over}
use Rattle.ncq_midfile.proofs.place_set.many.Goals as goal

pub loop-at-preserved : goal.loop-at-preserved
loop-at-preserved c = λ q.
    one_over q c.loop-at.at-index c.args.places.now (contains nat_cmp c.loop-at.all q) (contains nat_cmp c.insert.new.self q)
    (list_any (nat_eq q) c.args.places.now) c.loop-at-test.true (c.in_ok-insert.ensures.updates.0 q) (c.loop-at.invariant q)
