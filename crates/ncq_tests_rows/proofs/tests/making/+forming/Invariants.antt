use Rattle.std.proofs.Common.{◌≡◌, drop}
use Rattle.std.specs.List.{list_all}
use Rattle.ncq_row.specs.Formed.{shape_is_formed}
use Rattle.ncq_tests_rows.proofs.tests.making.+forming.Given as goal

-- what is left decides
abbrev pub invariant-shapes_are_formed-loop-shape : goal.invariant-shapes_are_formed-loop-shape
invariant-shapes_are_formed-loop-shape l = list_all shape_is_formed (drop l.shape-index l.shapes) ≡ list_all shape_is_formed l.shapes
