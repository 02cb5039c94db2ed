use Rattle.std.proofs.Common.{◌≡◌, ◌-◌, ◌^◌, min, take}
use Rattle.std.specs.List.{sum_by}
use Rattle.ncq_row.specs.Widths.{width}
use Rattle.ncq_row.proofs.places.+width.Given as goal

abbrev pub invariant-width_of_shapes-loop-shape : goal.invariant-width_of_shapes-loop-shape
invariant-width_of_shapes-loop-shape l = l.places
    ≡ min (sum_by width (take l.shape-index l.shapes)) (2 ^ 64 - 1)
