use Rattle.std.proofs.Common.{◌≡◌, ◌++◌, drop, take, length}
use Rattle.std.specs.List.{flat_map}
use Rattle.ncq_base.specs.AtomTexts.{quoted_byte}
use Rattle.ncq_base.proofs.atom_text.push_quoted_bytes.Given as goal

-- what is left decides
abbrev pub invariant-loop-byte : goal.invariant-loop-byte
invariant-loop-byte l = record {
  left : l.out.items ++ flat_map quoted_byte (drop l.byte-index l.text) ≡ l.initial.out.items ++ flat_map quoted_byte l.text;
  front : take (length l.initial.out.items) l.out.items ≡ l.initial.out.items;
}
