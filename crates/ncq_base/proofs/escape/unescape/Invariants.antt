use Rattle.std.proofs.Common.{◌≡◌, ◌++◌, drop}
use Rattle.ncq_base.specs.Escapes.{unescaped, unescaped_behind}
use Rattle.ncq_base.proofs.escape.unescape.Given as goal

-- what is left decides
abbrev pub invariant-loop-byte : goal.invariant-loop-byte
invariant-loop-byte l = l.out.items ++ unescaped_behind l.behind (drop l.byte-index l.text) ≡ unescaped l.text
