use Rattle.std.proofs.Common.{◌≡◌, take, length}
use Rattle.std.specs.List.{flat_map}
use Rattle.ncq_plan.specs.Templates.{forest_of}
use Rattle.ncq_callback.proofs.sharing.+sharing.Given as goal

abbrev pub invariant-make_same-loop-i : goal.invariant-make_same-loop-i
invariant-make_same-loop-i l = record {
  long : length l.content ≡ length l.others;
  alike : flat_map (forest_of l.row) (take l.i l.content) ≡ flat_map (forest_of l.values) (take l.i l.others);
}
