use Rattle.std.proofs.Common.{◌≡◌, ◌++◌, drop, map, take, length}
use Rattle.ncq_pyx.specs.Canonical.{bytes_of_lines, attribute_line}
use Rattle.ncq_pyx.proofs.writing.write_attributes.Given as goal

-- what is left decides
abbrev pub invariant-loop-attribute : goal.invariant-loop-attribute
invariant-loop-attribute l = record {
  left : l.out.items ++ bytes_of_lines (map attribute_line (drop l.attribute-index l.attributes)) ≡ l.initial.out.items ++ bytes_of_lines (map attribute_line l.attributes);
  front : take (length l.initial.out.items) l.out.items ≡ l.initial.out.items;
}
