use Rattle.std.proofs.Common.{◌≡◌, ◌++◌, length, take}
use Rattle.std.specs.Prelude.{IfSome}
use Rattle.std.specs.List.{flat_map}
use Rattle.ncq_callback.specs.Labels.{handed_in}
use Rattle.ncq_distinct.specs.DistinctTables.{HaveSameCounts}
use Rattle.ncq_plan.specs.Relations.{relations}
use Rattle.ncq_engine.specs.Cached.{Grows}
use Rattle.ncq_engine.specs.Spans.{spans_of}
use Rattle.ncq_engine.specs.Tellings.{Awaits, IsLatest, firing_name, firing_text, started_at}
use Rattle.ncq_engine.proofs.ListedLaws.{AsksLast, of_listed}
use Rattle.ncq_engine.proofs.telling.tell_started.Given as goal

abbrev pub invariant-loop-listed : goal.invariant-loop-listed
invariant-loop-listed g l = record {
  text : l.out.items ≡ l.initial.out.items
      ++ flat_map (firing_text (handed_in l.handlers.items.items (λ h. h.name) (λ h. h.kind) l.handlers.predicates.items (λ p. p.name) (λ p. p.relation)) l.store l.live_table.table.files l.fn.distinct l.live_table.subscriptions) (flat_map (λ m. started_at l.live_table.instant l.live_table.subscriptions (of_listed m).install) (take l.listed-index l.listed-items));
  spans : l.spans ≡ spans_of (firing_name l.live_table.subscriptions) (firing_text (handed_in l.handlers.items.items (λ h. h.name) (λ h. h.kind) l.handlers.predicates.items (λ p. p.name) (λ p. p.relation)) l.store l.live_table.table.files l.fn.distinct l.live_table.subscriptions)
      (length l.initial.out.items) (flat_map (λ m. started_at l.live_table.instant l.live_table.subscriptions (of_listed m).install) (take l.listed-index l.listed-items));
  latest : IfSome l.latest (IsLatest (relations l.handlers.predicates.items (λ p. p.name) (λ p. p.relation)) l.store l.live_table.table);
  asks : AsksLast l.listed-items l.asked l.latest;
  cached : Grows (relations l.handlers.predicates.items (λ p. p.name) (λ p. p.relation)) l.live_table.table l.initial.cache l.cache;
  counts : HaveSameCounts l.fn.distinct l.distinct;
  waiting : Awaits (relations l.handlers.predicates.items (λ p. p.name) (λ p. p.relation)) l.store l.live_table (flat_map (λ m. started_at l.live_table.instant l.live_table.subscriptions (of_listed m).install) (take l.listed-index l.listed-items)) l.distinct;
}
