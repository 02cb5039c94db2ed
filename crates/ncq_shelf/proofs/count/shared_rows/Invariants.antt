use Rattle.std.proofs.Common.{◌-◌, ◌^◌, length}
use Rattle.ncq_shelf.proofs.RowSums.{AddsUp}
use Rattle.ncq_shelf.proofs.count.shared_rows.Given as goal

-- what is left decides
abbrev pub invariant-loop-held : goal.invariant-loop-held
invariant-loop-held l = AddsUp (λ entry. length entry.1.rows) (2 ^ 64 - 1) l.count l.held-iterator l.groups.entries
