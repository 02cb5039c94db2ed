use Rattle.std.proofs.Common.{◌≡◌, ◌++◌, drop, take, length}
use Rattle.ncq_base.specs.Escapes.{escaped}
use Rattle.ncq_base.proofs.escape.push_escaped_all.Given as goal

-- what is left decides
abbrev pub invariant-loop-byte : goal.invariant-loop-byte
invariant-loop-byte l = record {
  left : l.out.items ++ escaped (drop l.byte-index l.text) ≡ l.initial.out.items ++ escaped l.text;
  front : take (length l.initial.out.items) l.out.items ≡ l.initial.out.items;
}
