use Rattle.std.proofs.Common.{◌≡◌, ◌+◌, drop, length}
use Rattle.std.specs.Prelude.{IsFalse}
use Rattle.ncq_source.specs.Changes.{prepared, front, store_after}
use Rattle.ncq_source.proofs.prepare.prepare.Given as goal

-- what is left decides
abbrev pub invariant-loop-item : goal.invariant-loop-item
invariant-loop-item l = record {
  count : length l.entries ≡ l.item-index;
  left : front l.entries (prepared l.rule (l.before + length l.entries + 1) l.ahead (drop l.item-index l.items)) ≡ prepared l.rule (l.before + 1) l.initial.ahead l.items;
  ahead : IsFalse l.last → store_after l.rule l.ahead (drop l.item-index l.items) ≡ store_after l.rule l.initial.ahead l.items;
}
