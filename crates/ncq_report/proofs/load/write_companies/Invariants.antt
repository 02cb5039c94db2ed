use Rattle.std.proofs.Common.{◌≡◌, ◌++◌, take, length}
use Rattle.ncq_report.specs.Loads.{companies}
use Rattle.ncq_report.proofs.load.write_companies.Given as goal

-- the companies before this one are there
abbrev pub invariant-loop-j : goal.invariant-loop-j
invariant-loop-j l = record {
  so_far : l.out.items ≡ l.initial.out.items ++ companies l.j;
  front : take (length l.fn.out.items) l.out.items ≡ l.fn.out.items;
}
