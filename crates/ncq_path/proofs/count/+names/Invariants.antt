use Rattle.std.proofs.Common.{◌≡◌, ◌^◌, ◌-◌, min, take}
use Rattle.std.specs.List.{sum_by}
use Rattle.ncq_path.specs.Formed.{names_in}
use Rattle.ncq_path.proofs.count.+names.Given as goal

abbrev pub invariant-names_in_all-loop-path : goal.invariant-names_in_all-loop-path
invariant-names_in_all-loop-path l = l.names ≡ min (sum_by names_in (take l.path-index l.paths)) (2 ^ 64 - 1)
