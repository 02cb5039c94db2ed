use Rattle.std.proofs.Common.{◌≡◌, take, length, map}
use Rattle.ncq_plan.specs.Templates.{attribute_of}
use Rattle.ncq_callback.proofs.sharing.have_same.Given as goal

abbrev pub invariant-loop-i : goal.invariant-loop-i
invariant-loop-i l = record {
  long : length l.attributes ≡ length l.others;
  alike : map (attribute_of l.row) (take l.i l.attributes) ≡ map (attribute_of l.values) (take l.i l.others);
}
