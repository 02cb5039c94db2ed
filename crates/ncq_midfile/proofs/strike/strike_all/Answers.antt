use Rattle.std.proofs.Common.{◌≡◌, true, subst}
use Rattle.std.specs.List.{AllByRecursion}
use Rattle.ncq_midfile.proofs.StrikeLaws.{counts_more, counts_done}
use Rattle.ncq_midfile.proofs.strike.strike_all.Goals as goal

pub loop-at-preserved : goal.loop-at-preserved
loop-at-preserved c = record {
  balanced = c.strike.ensures.balanced;
  counts = counts_more c.args.rows.now.items c.loop-at.rows.items c.strike.new.rows.items c.loop-at.invariant.counts c.strike.ensures.counts;
  numbers = λ n all. c.strike.ensures.numbers n (c.loop-at.invariant.numbers n all);
}

pub returns-clause-counts : goal.returns-clause-counts
returns-clause-counts c =
    counts_done c.args.rows.now.items c.loop-at.rows.items c.loop-at.invariant.counts
    (subst (AllByRecursion (λ r. r.plus ≡ true)) c.as_slice.ensures.value c.in_default.ensures.none)
