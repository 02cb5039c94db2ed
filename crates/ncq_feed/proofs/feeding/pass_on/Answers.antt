use Rattle.std.proofs.Common.{◌+◌, arith, subst, sym, ap, ◌∙◌}
use Rattle.ncq_source.specs.StoreStates.{StoreState}
use Rattle.ncq_feed.specs.Runs.{IsUnderWay, news_in, own_in}
use Rattle.ncq_feed.proofs.GrowthLaws.{at_start, still}
use Rattle.ncq_feed.proofs.TurnLaws.{next_turn, all_right}
use Rattle.ncq_feed.proofs.CountLaws.{all_within}
use Rattle.ncq_feed.proofs.OwnLaws.{own_due_less, own_in_less, own_within, turn_shared, turn_refused, below_all}
use Rattle.ncq_feed.proofs.PendingLaws.{room_falls}
use Rattle.ncq_feed.proofs.NameLaws.{named_idle, named_more, all_named}
use Rattle.ncq_feed.proofs.feeding.pass_on.Goals as goal

pub feed_scans-requires : goal.feed_scans-requires
feed_scans-requires g c κs within =
    let here = sym c.requires.1.1.1.0 in (
      within,
      (
        c.requires.1.0,
        (
          c.requires.1.1.0,
          (
            subst (IsUnderWay g.run) here (at_start g.run c.requires.1.1.1.1),
            (λ number. ap (λ files. news_in g.run.store.changes files number) c.requires.1.1.1.0 ∙ still g.run c.requires.1.1.1.1 number, c.new-pending.ensures),
          ),
        ),
      ),
    )

pub take_turn-requires : goal.take_turn-requires
take_turn-requires g c κs within =
    let inv = c.loop-at.invariant in (
      within,
      (
        c.changes.ensures ∙ ap (λ (s : StoreState). s.changes) c.requires.1.0,
        (
          inv.under,
          (next_turn g.run c.loop-at.shelf inv.under inv.next c.in-Some.at c.loop-at.pending c.take_first.new.self inv.passed c.in-Some.ensures.some c.in-Some.ensures.above, c.in-Some.ensures.above),
        ),
      ),
    )

pub loop-at-init : goal.loop-at-init
loop-at-init g c = record {
  under = c.feed_scans.ensures.under;
  spent = (let spent = c.in_ok-feed_scans.ensures.spent in let less = own_in_less g.run c.feed_scans.new.shelf in omega arith);
  next = 0;
  shared = λ held counted. let spent = c.in_ok-feed_scans.ensures.spent in omega arith;
  passed = c.in_ok-feed_scans.ensures.passed;
  named = λ number less apart. absurd (omega arith);
}

pub loop-at-preserved : goal.loop-at-preserved
loop-at-preserved g c =
    let inv = c.loop-at.invariant in
    let turn = c.in_ok-got.ensures in
    record {
      under = c.take_turn.ensures.under;
      spent = (let before = inv.spent in let step = turn.spent in omega arith);
      next = c.in-Some.at + 1;
      shared = λ held counted.
          turn_shared g.run c.loop-at.shelf inv.under inv.next c.in-Some.at c.loop-at.pending c.take_first.new.self inv.passed c.in-Some.ensures.some held c.args.steps.now c.loop-at.steps c.take_turn.new.steps
          (inv.shared held counted) (own_in g.run c.take_turn.new.shelf) (turn.split held counted);
      passed = turn.passed;
      named = named_more g.run c.loop-at.shelf inv.under inv.next c.in-Some.at c.loop-at.pending c.take_first.new.self c.loop-at.numbers inv.passed c.in-Some.ensures.some c.in-Some.ensures.above inv.named c.take_turn.new.shelf turn.below
          c.push.new.self c.in_ok-push.ensures.ok;
    }

pub loop-at-preserved-then-not-got : goal.loop-at-preserved-then-not-got
loop-at-preserved-then-not-got g c =
    let inv = c.loop-at.invariant in
    let turn = c.in_ok-got.ensures in
    record {
      under = c.take_turn.ensures.under;
      spent = (let before = inv.spent in let step = turn.spent in omega arith);
      next = c.in-Some.at + 1;
      shared = λ held counted.
          turn_shared g.run c.loop-at.shelf inv.under inv.next c.in-Some.at c.loop-at.pending c.take_first.new.self inv.passed c.in-Some.ensures.some held c.args.steps.now c.loop-at.steps c.take_turn.new.steps
          (inv.shared held counted) (own_in g.run c.take_turn.new.shelf) (turn.split held counted);
      passed = turn.passed;
      named = named_idle g.run c.loop-at.shelf inv.under inv.next c.in-Some.at c.loop-at.pending c.take_first.new.self c.loop-at.numbers inv.passed c.in-Some.ensures.some c.in-Some.ensures.above inv.named c.take_turn.new.shelf turn.below
          (turn.nothing c.if-not-got.true);
    }

pub loop-at-smaller : goal.loop-at-smaller
loop-at-smaller g c =
    room_falls c.in-Some.at c.loop-at.pending c.take_first.new.self c.take_turn.new.pending c.in-Some.ensures.some c.in-Some.ensures.small c.in_ok-got.ensures.passed.passed.ahead

pub loop-at-smaller-then-not-got : goal.loop-at-smaller-then-not-got
loop-at-smaller-then-not-got g c =
    room_falls c.in-Some.at c.loop-at.pending c.take_first.new.self c.take_turn.new.pending c.in-Some.ensures.some c.in-Some.ensures.small c.in_ok-got.ensures.passed.passed.ahead

pub returns-clause-right : goal.returns-clause-right
returns-clause-right g c =
    let inv = c.loop-at.invariant in
    all_right g.run c.loop-at.shelf inv.under inv.next c.loop-at.pending inv.passed c.in_default.ensures.none

pub returns-clause-named : goal.returns-clause-named
returns-clause-named g c =
    let inv = c.loop-at.invariant in
    all_named g.run c.loop-at.shelf inv.next c.loop-at.pending c.loop-at.numbers inv.passed c.in_default.ensures.none inv.named

pub returns-in_err-push-clause-cost : goal.returns-in_err-push-clause-cost
returns-in_err-push-clause-cost g c =
    let inv = c.loop-at.invariant.spent in
    let step = c.take_turn.ensures.cost in
    omega arith

pub returns-clause-cost : goal.returns-clause-cost
returns-clause-cost g c =
    let inv = c.loop-at.invariant in
    let within = all_within g.run c.loop-at.shelf inv.under inv.next c.loop-at.pending inv.passed in
    omega arith

pub returns-in_err-feed_scans-clause-cost : goal.returns-in_err-feed_scans-clause-cost
returns-in_err-feed_scans-clause-cost g c = let cost = c.feed_scans.ensures.cost in let less = own_due_less g.run in omega arith

pub returns-in_err-feed_scans-clause-shared : goal.returns-in_err-feed_scans-clause-shared
returns-in_err-feed_scans-clause-shared g c = λ held counted. let cost = c.feed_scans.ensures.cost in omega arith

pub returns-in_err-got-clause-shared : goal.returns-in_err-got-clause-shared
returns-in_err-got-clause-shared g c = λ held counted.
    let inv = c.loop-at.invariant in
    turn_refused g.run c.loop-at.shelf inv.under inv.next c.in-Some.at c.loop-at.pending c.take_first.new.self inv.passed c.in-Some.ensures.some held c.args.steps.now c.loop-at.steps c.take_turn.new.steps
    (inv.shared held counted) (c.take_turn.ensures.shared held counted)

pub returns-in_err-push-clause-shared : goal.returns-in_err-push-clause-shared
returns-in_err-push-clause-shared g c = λ held counted.
    let inv = c.loop-at.invariant in
    turn_refused g.run c.loop-at.shelf inv.under inv.next c.in-Some.at c.loop-at.pending c.take_first.new.self inv.passed c.in-Some.ensures.some held c.args.steps.now c.loop-at.steps c.take_turn.new.steps
    (inv.shared held counted) (c.take_turn.ensures.shared held counted)

pub returns-clause-shared : goal.returns-clause-shared
returns-clause-shared g c = λ held counted.
    let inv = c.loop-at.invariant in
    let shared = inv.shared held counted in
    let few = own_within g.run c.loop-at.shelf inv.under inv.next c.loop-at.pending inv.passed in
    let below = below_all g.run held inv.next in
    omega arith
