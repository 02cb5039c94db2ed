use Rattle.std.proofs.Common.{rules, ◌≡◌, [], ◌∷◌, length, arith, ap, ◌∙◌, subst, sym, refl}
use Rattle.std.specs.List.{AllByRecursion}
use Rattle.std.specs.Vec.Iter.{into_iter_items}
use Rattle.std.proofs.lemmas.Grind.{common_steps}
use Rattle.ncq_readers.specs.Passed.{held_at}
use Rattle.ncq_feed.specs.Shares.{AreShared, IsHeldFor, at_slot}
use Rattle.ncq_feed.proofs.ScanLaws.{no_rows}
use Rattle.ncq_feed.proofs.ShareLaws.{more_shared, none_shared}
use Rattle.ncq_feed.proofs.turn.deliver_held.Goals as goal

pub share_rows-requires : goal.share_rows-requires
share_rows-requires g c =
    let e : into_iter_items c.loop-group.group-iterator ≡ c.in-Some.group ∷ into_iter_items c.next.new.self = search rules in
    (c.loop-group.invariant.under, (c.requires.1.0, (subst (AllByRecursion (λ h. AllByRecursion (IsHeldFor g.run c.args.at h.slot) h.rows)) e c.loop-group.invariant.left).0))

pub loop-group-init : goal.loop-group-init
loop-group-init g c =
    let items = c.into_iter-group-iterator.ensures.into_iter_gives.0 ∙ c.into_vec-group-items.ensures in
    record {
      under = c.requires.0;
      left = subst (AllByRecursion (λ h. AllByRecursion (IsHeldFor g.run c.args.at h.slot) h.rows)) (sym items) c.requires.1.1;
      shared = λ keys files rest. subst (λ held. AreShared g.run c.args.at (λ slot. held_at slot held) c.args.pending.now keys c.args.shelf.now files) items rest;
    }

pub loop-group-preserved : goal.loop-group-preserved
loop-group-preserved g c =
    let e : into_iter_items c.loop-group.group-iterator ≡ c.in-Some.group ∷ into_iter_items c.next.new.self = search rules in
    record {
      under = c.share_rows.ensures.under;
      left = (subst (AllByRecursion (λ h. AllByRecursion (IsHeldFor g.run c.args.at h.slot) h.rows)) e c.loop-group.invariant.left).1;
      shared = λ keys files rest. c.loop-group.invariant.shared keys files
          (subst (λ held. AreShared g.run c.args.at (λ slot. held_at slot held) c.loop-group.pending keys c.loop-group.shelf files) (sym e)
          (more_shared g.run c.args.at (at_slot c.in-Some.group.slot c.in-Some.group.rows) (λ slot. held_at slot (into_iter_items c.next.new.self)) (λ slot. held_at slot (c.in-Some.group ∷ into_iter_items c.next.new.self)) (λ slot. refl)
          c.loop-group.pending c.share_rows.new.pending keys c.loop-group.shelf c.share_rows.new.shelf files c.in_ok-share_rows.ensures.shared rest));
    }

pub returns-clause-shared : goal.returns-clause-shared
returns-clause-shared g c =
    let none : length (into_iter_items c.loop-group.group-iterator) ≡ 0 = grind (arith, common_steps) in
    let e : into_iter_items c.loop-group.group-iterator ≡ [] = no_rows (into_iter_items c.loop-group.group-iterator) none in
    c.loop-group.invariant.shared c.loop-group.pending c.loop-group.shelf
    (none_shared g.run c.args.at c.loop-group.pending c.loop-group.shelf (λ slot. held_at slot (into_iter_items c.loop-group.group-iterator)) (λ slot. ap (held_at slot) e))
