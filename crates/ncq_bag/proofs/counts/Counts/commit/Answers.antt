use Rattle.std.proofs.Common.{◌≡◌, ◌∙◌, List, length, suc, ap, sym, subst, arith}
use Rattle.std.specs.Vec.Iter.{into_iter_items}
use Rattle.ncq_bag.specs.Counts.{IsChange, after}
use Rattle.ncq_bag.specs.declared.bag.Difference.{Difference}
use Rattle.ncq_bag.proofs.CountLaws.{later}
use Rattle.ncq_bag.proofs.counts.Counts.commit.Goals as goal

pub loop-change-preserved : goal.loop-change-preserved
loop-change-preserved c =
    let counts = c.loop-change.self.counts in
    let more = into_iter_items c.next.new.self in
    let split = c.in-Some.ensures.steps.0 in
    let left : length (into_iter_items c.loop-change.change-iterator) ≡ suc (length more) = ap length split in
    let room = c.loop-change.invariant.room in
    let used = c.apply.ensures.room in
    record {
      room = omega (arith, left, room, used);
      change =
          rw c.apply.ensures.counts
          (later counts c.in-Some.change more
          (subst (λ (ds : List Difference). IsChange counts ds) split c.loop-change.invariant.change));
      left = rw c.apply.ensures.counts (ap (after counts) (sym split) ∙ c.loop-change.invariant.left);
    }
