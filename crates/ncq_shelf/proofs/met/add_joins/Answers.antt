use Rattle.std.proofs.Common.{refl}
use Rattle.ncq_shelf.specs.Met.{IsGathered}
use Rattle.ncq_shelf.proofs.KeyLaws.{all_step}
use Rattle.ncq_shelf.proofs.MetLaws.{gathers_on, gathered_more}
use Rattle.ncq_shelf.proofs.met.add_joins.Goals as goal

pub loop-number-preserved : goal.loop-number-preserved
loop-number-preserved c =
    let files = c.args.files.now.entries in
    let old = c.loop-number.met.keys in
    let new = c.add_join.new.met.keys in
    record {
      gathers = gathers_on files c.args.input c.args.met.now.keys old new c.loop-number.invariant.gathers c.add_join.ensures.gathers;
      done = all_step (IsGathered files c.args.input old) (IsGathered files c.args.input new) c.args.numbers.now c.loop-number.number-index 0 _ refl c.loop-number-test.true
          (gathered_more files c.args.input old new c.add_join.ensures.gathers) c.loop-number.invariant.done c.in_ok-add_join.ensures.ok;
    }
