use Rattle.std.proofs.Common.{◌≡◌, ◌+◌, ◌<◌, [], length, take, slice_get, arith, true≢false, ◌∙◌, ap, subst, sym}
use Rattle.std.specs.Vec.Iter.{into_iter_items}
use Rattle.std.proofs.lemmas.Grind.{common_steps}
use Rattle.ncq_source.specs.StoreStates.{StoreState}
use Rattle.ncq_shelf.specs.Readers.{AreScansOf}
use Rattle.ncq_feed.specs.Feeds.{name_at}
use Rattle.ncq_feed.specs.Runs.{own_in}
use Rattle.ncq_feed.specs.ScanFeeds.{AreLeft, AreScansFed}
use Rattle.ncq_feed.proofs.PortionLaws.{asked_now, first_scan, first_still, left_less, portion_begins, portion_here, portion_left, portion_name, portion_same, portion_there, scan_cost, scan_spent, scans_more, scans_within}
use Rattle.ncq_feed.proofs.ScanLaws.{no_rows}
use Rattle.ncq_feed.proofs.scan.feed_portion.Goals as goal

pub name_of-requires : goal.name_of-requires
name_of-requires g c =
    let under = c.requires.1.1.1.1.0 in
    let portion = c.index-portions-at.result in
    let here = portion_here c.args.portions.now g.run.change c.args.at portion c.requires.1.1.0 c.requires.1.1.1.0 c.index-portions-at.is in
    subst (λ (store : StoreState). portion.source.0 < length store.sources) (sym c.requires.1.0) (portion_there g.run under.start c.args.at portion here)

pub returns-in_err-scans-clause-cost : goal.returns-in_err-scans-clause-cost
returns-in_err-scans-clause-cost g c =
    let within = scans_within g.run c.args.shelf.now c.requires.1.1.1.1.0 (take c.args.at g.run.change) [] c.args.pending.now c.requires.1.1.1.1.1 (λ number is. absurd (true≢false (sym is))) in
    omega arith

pub loop-scan-init : goal.loop-scan-init
loop-scan-init g c =
    let under = c.requires.1.1.1.1.0 in
    let fed = c.requires.1.1.1.1.1 in
    let at = c.args.at in
    let portion = c.index-portions-at.result in
    let numbers = c.in_ok-scans.scans in
    let name = name_at g.run.store portion.source in
    let here = portion_here c.args.portions.now g.run.change at portion c.requires.1.1.0 c.requires.1.1.1.0 c.index-portions-at.is in
    let named = portion_name g.run under.start at portion here c.name_of.result.now (λ s is. c.name_of.ensures s (ap (λ (store : StoreState). slice_get store.sources portion.source.0) c.requires.1.0 ∙ is)) in
    let are = subst (λ name. AreScansOf c.args.shelf.now name numbers) named c.in_ok-scans.ensures.scans in
    let items = c.into_iter-scan-iterator.ensures.into_iter_gives.0 ∙ c.into_vec-scan-items.ensures in
    record {
      under = under;
      spent = omega arith;
      name = name;
      asked = asked_now g.run under.start at portion here;
      same = c.as_slice-entries.ensures ∙ portion_same g.run under.start at portion here;
      left = subst (λ left. AreLeft g.run name left c.args.shelf.now) (sym items)
          (portion_left g.run under.start at portion here c.args.shelf.now under c.args.pending.now fed numbers are c.in_ok-scans.ensures.once);
      fed = subst (λ left. AreScansFed g.run (take (at + 1) g.run.change) left c.args.pending.now c.args.shelf.now) (sym items)
          (portion_begins g.run under.start at portion here c.args.shelf.now under c.args.pending.now fed numbers are);
    }

pub feed_scan-requires : goal.feed_scan-requires
feed_scan-requires g c κs within =
    let inv = c.loop-scan.invariant in
    let rest = into_iter_items c.next.new.self in
    let left = subst (λ left. AreLeft g.run inv.name left c.loop-scan.shelf) c.in-Some.ensures.steps.0 inv.left in (
      within,
      (
        c.changes-now.ensures ∙ ap (λ (s : StoreState). s.changes) c.requires.1.0,
        (
          inv.under,
          (
            record { name = inv.name; scan = first_scan g.run inv.name c.in-Some.scan rest c.loop-scan.shelf left; same = inv.same },
            first_still g.run inv.name c.in-Some.scan rest c.loop-scan.shelf left,
          ),
        ),
      ),
    )

pub loop-scan-preserved : goal.loop-scan-preserved
loop-scan-preserved g c =
    let inv = c.loop-scan.invariant in
    let one = c.in_ok-feed_scan.ensures.fed in
    let portions = take (c.args.at + 1) g.run.change in
    let rest = into_iter_items c.next.new.self in
    let split = c.in-Some.ensures.steps.0 in
    let left = subst (λ left. AreLeft g.run inv.name left c.loop-scan.shelf) split inv.left in
    let fed = subst (λ left. AreScansFed g.run portions left c.loop-scan.pending c.loop-scan.shelf) split inv.fed in
    record {
      under = c.feed_scan.ensures.under;
      spent = scan_spent g.run c.loop-scan.shelf inv.under inv.name c.in-Some.scan rest left c.args.steps.now (own_in g.run c.args.shelf.now) c.loop-scan.steps c.feed_scan.new.steps inv.spent c.feed_scan.ensures.cost
          c.loop-scan.pending c.feed_scan.new.pending c.feed_scan.new.shelf one;
      name = inv.name;
      asked = inv.asked;
      same = inv.same;
      left = left_less g.run inv.name c.in-Some.scan rest c.loop-scan.shelf left c.loop-scan.pending c.feed_scan.new.pending c.feed_scan.new.shelf one;
      fed = scans_more g.run inv.name c.in-Some.scan rest c.loop-scan.shelf left c.loop-scan.pending c.feed_scan.new.pending c.feed_scan.new.shelf one portions inv.asked fed;
    }

pub returns-in_err-feed_scan-clause-cost : goal.returns-in_err-feed_scan-clause-cost
returns-in_err-feed_scan-clause-cost g c =
    let inv = c.loop-scan.invariant in
    let portions = take (c.args.at + 1) g.run.change in
    let rest = into_iter_items c.next.new.self in
    let split = c.in-Some.ensures.steps.0 in
    let left = subst (λ left. AreLeft g.run inv.name left c.loop-scan.shelf) split inv.left in
    let fed = subst (λ left. AreScansFed g.run portions left c.loop-scan.pending c.loop-scan.shelf) split inv.fed in
    scan_cost g.run c.loop-scan.shelf inv.under inv.name c.in-Some.scan rest left c.args.steps.now (own_in g.run c.args.shelf.now) c.loop-scan.steps c.feed_scan.new.steps inv.spent c.feed_scan.ensures.cost portions c.loop-scan.pending fed

pub returns-clause-fed : goal.returns-clause-fed
returns-clause-fed g c =
    let none : length (into_iter_items c.loop-scan.scan-iterator) ≡ 0 = grind (arith, common_steps) in
    subst (λ left. AreScansFed g.run (take (c.args.at + 1) g.run.change) left c.loop-scan.pending c.loop-scan.shelf) (no_rows (into_iter_items c.loop-scan.scan-iterator) none) c.loop-scan.invariant.fed

pub returns-clause-cost : goal.returns-clause-cost
returns-clause-cost g c =
    let inv = c.loop-scan.invariant in
    let within = scans_within g.run c.loop-scan.shelf inv.under (take (c.args.at + 1) g.run.change) (into_iter_items c.loop-scan.scan-iterator) c.loop-scan.pending inv.fed inv.left.still in
    let spent = inv.spent in
    omega arith
