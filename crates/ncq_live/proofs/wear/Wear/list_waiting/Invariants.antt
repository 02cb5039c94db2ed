use Rattle.std.proofs.Common.{◌≡◌}
use Rattle.ncq_live.specs.Wears.{KnowsTheWorn}
use Rattle.ncq_live.proofs.wear.Wear.list_waiting.Given as goal

-- what is known of the files stays, and each that is worn is still listed or pinned
abbrev pub invariant-loop : goal.invariant-loop
invariant-loop l = record {
  bounds : l.self-inside.bounds.entries ≡ l.initial.self-inside.bounds.entries;
  pinned : l.self-inside.pinned.keys ≡ l.initial.self-inside.pinned.keys;
  loose : l.self-inside.is_loose ≡ l.initial.self-inside.is_loose;
  knows : KnowsTheWorn l.self-inside.bounds.entries l.self-inside.worn.keys l.self-inside.pinned.keys;
}
