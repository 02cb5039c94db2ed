use Rattle.std.proofs.Common.{sym, ap, ◌∙◌}
use Rattle.ncq_feed.specs.Feeds.{world_after}
use Rattle.ncq_count.proofs.CallerLemmas.{counted_again}
use Rattle.ncq_group.specs.Inside.{table_of}
use Rattle.ncq_group.proofs.FedFacts.{all_fed, facts_fed}
use Rattle.ncq_group.proofs.table.GroupTable.feed.Goals as goal

pub returns-clause-named : goal.returns-clause-named
returns-clause-named g c = c.in_ok-numbers.ensures.named

pub invariant_of-self-2 : goal.invariant_of-self-2
invariant_of-self-2 g c =
    let old = table_of c.self.inside.filed c.self.inside.number in
    let fed = c.in_ok-numbers.ensures.fed in
    record {
      facts = facts_fed c.args.store.now c.args.change.now old c.self.invariant.facts c.feed.new.shelf fed (world_after c.args.store.now c.args.change.now) c.in_ok-numbers.ensures.ready
          (c.requires.number ∙ sym (ap (λ t. t.number) c.self.view_is));
      counted = counted_again old.files c.feed.new.shelf (all_fed c.args.store.now c.args.change.now old.files c.feed.new.shelf fed) c.self.inside.filed.groups c.self.invariant.counted;
    }
