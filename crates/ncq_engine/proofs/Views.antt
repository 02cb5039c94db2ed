-- What contracts see of an engine of these fields.
use Rattle.ncq_engine.specs.Stands.{EngineState}
use Rattle.ncq_engine.specs.declared.engine.Engine.TheInside.{Inside}

abbrev pub view_of : Inside → EngineState
view_of i = record {
  store = i.store;
  clock = i.live_table.instant;
  count = i.count;
  creates = i.creates;
  handed = record { labels = i.labels.items; relations = i.relations.items };
  subscriptions = i.live_table.subscriptions;
  table = i.live_table.table;
  spans = i.spans;
  cache = i.cache;
  distinct = i.distinct;
}
