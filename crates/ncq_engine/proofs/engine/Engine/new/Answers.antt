use Rattle.std.proofs.Common.{[], subst, sym}
use Rattle.ncq_engine.specs.Cached.{AreToldRight}
use Rattle.ncq_engine.proofs.BoundLaws.{stands_of}
use Rattle.ncq_engine.proofs.NewLaws.{new_follows, new_holds}
use Rattle.ncq_engine.proofs.engine.Engine.new.Goals as goal

pub invariant_of-engine : goal.invariant_of-engine
invariant_of-engine g c =
    new_holds c.new.result (record { labels = c.in_ok-labels.labels.items; relations = c.in_ok-relations.relations.items }) c.new-2.result.subscriptions c.new-2.result.table c.in_ok-new.field-0 c.new-5.result
    c.new.ensures.empty c.new-2.ensures.subscriptions c.new-2.ensures.files c.new-2.ensures.number c.new-2.ensures.next_file c.in_ok-new.ensures c.new-5.ensures

pub returns-clause-stands : goal.returns-clause-stands
returns-clause-stands g c =
    let cache = c.in_ok-new.field-0 in
    let follows = new_follows c.new.result c.new-2.result.instant (record { labels = c.in_ok-labels.labels.items; relations = c.in_ok-relations.relations.items }) c.new-2.result.subscriptions c.new-2.result.table c.new-3.result cache c.new-5.result
    c.new.ensures.empty c.new-2.ensures.instant c.new-2.ensures.subscriptions c.new-2.ensures.files c.new-2.ensures.number c.new-2.ensures.next_file in
    stands_of _ [] follows (c.stands.ensures.bounded [] follows) c.stands.ensures.shares (subst (AreToldRight c.in_ok-relations.relations.items [] c.new-2.result.table) (sym c.in_ok-new.ensures) tt) c.stands.ensures.counts
