use Rattle.std.proofs.Common.{◌≡◌, ◌<◌, [], List, length, take, arith, true≢false, ◌∙◌, ap, subst, sym}
use Rattle.std.proofs.Math.Seq.{take-length}
use Rattle.ncq_source.specs.declared.change.Portion.{Portion}
use Rattle.ncq_feed.specs.ScanFeeds.{AreScansFed}
use Rattle.ncq_feed.proofs.PortionLaws.{scans_end, scans_start, scans_within}
use Rattle.ncq_feed.proofs.scan.feed_scans.Goals as goal

pub loop-at-init : goal.loop-at-init
loop-at-init g c = record {
  under = c.requires.1.1.1.0;
  spent = omega arith;
  fed = scans_start g.run c.args.shelf.now c.args.pending.now c.requires.1.1.1.1.0 c.requires.1.1.1.1.1;
}

pub feed_portion-requires : goal.feed_portion-requires
feed_portion-requires g c κs within =
    let portions : c.portions-portions.result.now ≡ g.run.change = c.portions-portions.ensures.portions ∙ c.requires.1.1.0 in
    let count = ap length portions in
    let below : c.loop-at.at < length g.run.change = omega arith in
    (within, (c.requires.1.0, (portions, (below, (c.loop-at.invariant.under, c.loop-at.invariant.fed)))))

pub loop-at-preserved : goal.loop-at-preserved
loop-at-preserved g c = record {
  under = c.feed_portion.ensures.under;
  spent = (let before = c.loop-at.invariant.spent in let step = c.in_ok-feed_portion.ensures.spent in omega arith);
  fed = c.in_ok-feed_portion.ensures.fed;
}

pub returns-clause-passed : goal.returns-clause-passed
returns-clause-passed g c =
    let count = ap length (c.portions-portions.ensures.portions ∙ c.requires.1.1.0) in
    let all : c.loop-at.at ≡ length g.run.change = omega arith in
    scans_end g.run c.loop-at.pending c.loop-at.shelf
    (subst (λ (portions : List Portion). AreScansFed g.run portions [] c.loop-at.pending c.loop-at.shelf) (ap (λ n. take n g.run.change) all ∙ take-length g.run.change) c.loop-at.invariant.fed)

pub returns-in_err-feed_portion-clause-cost : goal.returns-in_err-feed_portion-clause-cost
returns-in_err-feed_portion-clause-cost g c =
    let before = c.loop-at.invariant.spent in
    let step = c.feed_portion.ensures.cost in
    omega arith

pub returns-clause-cost : goal.returns-clause-cost
returns-clause-cost g c =
    let inv = c.loop-at.invariant in
    let within = scans_within g.run c.loop-at.shelf inv.under (take c.loop-at.at g.run.change) [] c.loop-at.pending inv.fed (λ number is. absurd (true≢false (sym is))) in
    let spent = inv.spent in
    omega arith
