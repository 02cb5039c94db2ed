use Rattle.std.proofs.Common.{◌≡◌, ◌++◌, drop, take, length}
use Rattle.std.specs.List.{flat_map}
use Rattle.ncq_report.specs.Texts.{group_text}
use Rattle.ncq_report.proofs.report.write_groups.Given as goal

-- what is left decides
abbrev pub invariant-loop-group : goal.invariant-loop-group
invariant-loop-group l = record {
  left : l.out.items ++ flat_map group_text (drop l.group-index l.groups) ≡ l.initial.out.items ++ flat_map group_text l.groups;
  front : take (length l.initial.out.items) l.out.items ≡ l.initial.out.items;
}
