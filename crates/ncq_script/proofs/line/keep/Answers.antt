use Rattle.std.proofs.Common.{◌≡◌, ◌+◌, ◌++◌, length, take, arith, ap}
use Rattle.std.proofs.lemmas.Grind.{common_steps}
use Rattle.ncq_script.proofs.Kept.{front_more}
use Rattle.ncq_script.proofs.line.keep.Goals as goal

pub returns-then-count-more-clause-ok : goal.returns-then-count-more-clause-ok
returns-then-count-more-clause-ok c part k =
    let grown : c.extend_from_slice.new.self.items ≡ take (c.args.limit + 1) (part ++ c.args.more.now) = grind (arith, common_steps, front_more, k.front) in
    record {
      front = grown;
      more = grind (arith, common_steps, k.front, ap length k.front);
    }

pub returns-else-count-more-clause-ok : goal.returns-else-count-more-clause-ok
returns-else-count-more-clause-ok c part k = record {
  front = grind (arith, common_steps, front_more, k.front);
  more = grind (arith, common_steps, k.front, ap length k.front);
}
