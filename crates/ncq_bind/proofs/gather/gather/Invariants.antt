use Rattle.std.proofs.Common.{◌≡◌, ◌++◌, drop, take, length}
use Rattle.ncq_bind.specs.Answers.{arms_of, places_of}
use Rattle.ncq_bind.specs.NormalArms.{open_arms}
use Rattle.ncq_bind.proofs.gather.gather.Given as goal

abbrev pub invariant-loop-item : goal.invariant-loop-item
invariant-loop-item l = record {
  arms : l.gathered.arms ++ open_arms (length l.gathered.places) (arms_of (drop l.item-index l.items)) ≡ open_arms 0 (arms_of l.items);
  places : l.gathered.places ≡ places_of (arms_of (take l.item-index l.items));
}
