use Rattle.std.proofs.Common.{◌-◌, ◌^◌}
use Rattle.ncq_shelf.specs.Shown.{count_of}
use Rattle.ncq_shelf.proofs.RowSums.{AddsUp}
use Rattle.ncq_shelf.proofs.count.own_rows.Given as goal

-- what is left decides
abbrev pub invariant-loop-file : goal.invariant-loop-file
invariant-loop-file l = AddsUp (λ entry. count_of entry.1.content) (2 ^ 64 - 1) l.count l.file-iterator l.files.entries
