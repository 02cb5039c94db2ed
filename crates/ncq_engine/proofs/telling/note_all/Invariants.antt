use Rattle.std.proofs.Common.{◌≡◌, drop}
use Rattle.ncq_engine.specs.Tellings.{noted_by}
use Rattle.ncq_engine.proofs.telling.note_all.Given as goal

-- what is left to note leads from here to where all leads from the beginning
abbrev pub invariant-loop-firing : goal.invariant-loop-firing
invariant-loop-firing l = record {
  subscriptions : noted_by l.number (drop l.firing-index l.firings) l.live_table.subscriptions ≡ noted_by l.number l.firings l.initial.live_table.subscriptions;
  table : l.live_table.table ≡ l.initial.live_table.table;
  instant : l.live_table.instant ≡ l.initial.live_table.instant;
}
