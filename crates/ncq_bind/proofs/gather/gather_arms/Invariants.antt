use Rattle.std.proofs.Common.{◌≡◌, ◌++◌, drop, take, length, map, List}
use Rattle.ncq_bind.specs.Answers.{QueryArm, arm_of, places_of}
use Rattle.ncq_bind.specs.NormalArms.{open_arms}
use Rattle.ncq_bind.proofs.gather.gather_arms.Given as goal

abbrev pub invariant-loop-pattern : goal.invariant-loop-pattern
invariant-loop-pattern l = record {
  arms : (rest : List QueryArm) → l.to.arms ++ open_arms (length l.to.places) (map (arm_of l.source) (drop l.pattern-index l.patterns) ++ rest)
      ≡ l.initial.to.arms ++ open_arms (length l.initial.to.places) (map (arm_of l.source) l.patterns ++ rest);
  places : l.to.places ≡ l.initial.to.places ++ places_of (map (arm_of l.source) (take l.pattern-index l.patterns));
}
