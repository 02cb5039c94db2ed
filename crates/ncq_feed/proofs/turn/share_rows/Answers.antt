use Rattle.std.proofs.Common.{rules, ◌≡◌, [], ◌∷◌, length, arith, ap, ◌∙◌, subst, sym}
use Rattle.std.specs.List.{AllByRecursion}
use Rattle.std.specs.Vec.Iter.{into_iter_items}
use Rattle.std.proofs.lemmas.Grind.{common_steps}
use Rattle.ncq_feed.specs.Shares.{AreShared, IsHeldFor, at_slot}
use Rattle.ncq_feed.proofs.ScanLaws.{no_rows}
use Rattle.ncq_feed.proofs.ShareLaws.{more_shared, none_shared, slot_more, slot_none}
use Rattle.ncq_feed.proofs.turn.share_rows.Goals as goal

pub share_row-requires : goal.share_row-requires
share_row-requires g c =
    let e : into_iter_items c.loop-row.row-iterator ≡ c.in-Some.row ∷ into_iter_items c.next.new.self = search rules in
    (c.loop-row.invariant.under, (c.requires.1.0, (subst (AllByRecursion (IsHeldFor g.run c.args.at c.args.group.slot)) e c.loop-row.invariant.left).0))

pub loop-row-preserved : goal.loop-row-preserved
loop-row-preserved g c =
    let e : into_iter_items c.loop-row.row-iterator ≡ c.in-Some.row ∷ into_iter_items c.next.new.self = search rules in
    record {
      under = c.share_row.ensures.under;
      left = (subst (AllByRecursion (IsHeldFor g.run c.args.at c.args.group.slot)) e c.loop-row.invariant.left).1;
      shared = λ keys files rest. c.loop-row.invariant.shared keys files
          (subst (λ rows. AreShared g.run c.args.at (at_slot c.args.group.slot rows) c.loop-row.pending keys c.loop-row.shelf files) (sym e)
          (more_shared g.run c.args.at (at_slot c.args.group.slot (c.in-Some.row ∷ [])) (at_slot c.args.group.slot (into_iter_items c.next.new.self)) (at_slot c.args.group.slot (c.in-Some.row ∷ into_iter_items c.next.new.self))
          (slot_more g.run c.args.at c.args.group.slot c.in-Some.row (into_iter_items c.next.new.self)) c.loop-row.pending c.share_row.new.pending keys c.loop-row.shelf c.share_row.new.shelf files c.in_ok-share_row.ensures.shared rest));
    }

pub returns-clause-shared : goal.returns-clause-shared
returns-clause-shared g c =
    let none : length (into_iter_items c.loop-row.row-iterator) ≡ 0 = grind (arith, common_steps) in
    let e : into_iter_items c.loop-row.row-iterator ≡ [] = no_rows (into_iter_items c.loop-row.row-iterator) none in
    c.loop-row.invariant.shared c.loop-row.pending c.loop-row.shelf
    (none_shared g.run c.args.at c.loop-row.pending c.loop-row.shelf (at_slot c.args.group.slot (into_iter_items c.loop-row.row-iterator))
    (λ slot. ap (λ rows. at_slot c.args.group.slot rows slot) e ∙ slot_none g.run c.args.at c.args.group.slot slot))
