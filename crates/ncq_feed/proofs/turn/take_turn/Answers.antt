use Rattle.std.proofs.Common.{◌-◌, ◌∷◌, ℕ, arith, subst, true≢false}
use Rattle.ncq_feed.specs.Runs.{is_among, due, count_in, news_in}
use Rattle.ncq_shelf.specs.Stands.{TellsRead}
use Rattle.ncq_feed.proofs.GrowthLaws.{there_up}
use Rattle.ncq_feed.proofs.CountLaws.{few, turn_refused, join_cost, join_spent, left_due, made_due, down_cost, down_spent}
use Rattle.ncq_feed.proofs.TurnLaws.{idle_turn, busy_turn, below_join, below_turn, turn_known, turn_start}
use Rattle.ncq_feed.proofs.OwnLaws.{own_joined, own_join_cost, own_refused, shared_cost, shared_spent}
use Rattle.ncq_feed.proofs.PaidLaws.{turn_paid}
use Rattle.ncq_feed.proofs.UnreadLaws.{nothing_down, nothing_told}
use Rattle.ncq_feed.proofs.turn.take_turn.Goals as goal

pub feed_join-requires : goal.feed_join-requires
feed_join-requires g c = λ κs within.
    let under = c.requires.1.1.0 in
    let passed = c.requires.1.1.1.0 in
    (within, (c.requires.1.0, (under, (turn_start g.run c.args.at c.args.pending.now c.args.shelf.now passed, (turn_known g.run c.args.shelf.now under c.args.at _ passed, few g.run c.args.shelf.now under c.args.at (λ number. is_among number (c.args.at ∷ c.args.pending.now)) passed.passed c.args.at)))))

pub got_rows-requires : goal.got_rows-requires
got_rows-requires g c = (c.requires.1.0, (c.feed_join.ensures.under, turn_start g.run c.args.at c.args.pending.now c.args.shelf.now c.requires.1.1.1.0))

pub pass_down-requires : goal.pass_down-requires
pass_down-requires g c = λ κs within.
    (within, (c.requires.1.0, (c.feed_join.ensures.under, turn_start g.run c.args.at c.args.pending.now c.args.shelf.now c.requires.1.1.1.0)))

pub tell_joins-requires : goal.tell_joins-requires
tell_joins-requires g c = (c.requires.1.0, (c.pass_down.ensures.under, turn_start g.run c.args.at c.args.pending.now c.args.shelf.now c.requires.1.1.1.0))

pub returns-then-not-got_rows-clause-passed : goal.returns-then-not-got_rows-clause-passed
returns-then-not-got_rows-clause-passed g c =
    idle_turn g.run c.requires.1.1.0.start c.args.at c.args.pending.now c.args.shelf.now c.feed_join.new.shelf c.requires.1.1.1.0 c.requires.1.1.1.1 c.in_ok-feed_join.ensures.joined
    (c.got_rows.ensures c.if-not-got_rows.true)

pub returns-then-not-got_rows-clause-below : goal.returns-then-not-got_rows-clause-below
returns-then-not-got_rows-clause-below g c = below_join g.run c.requires.1.1.0.start c.args.at c.args.shelf.now c.feed_join.new.shelf c.in_ok-feed_join.ensures.joined

pub returns-then-not-got_rows-clause-nothing : goal.returns-then-not-got_rows-clause-nothing
returns-then-not-got_rows-clause-nothing g c = λ none. c.got_rows.ensures c.if-not-got_rows.true

pub returns-clause-below : goal.returns-clause-below
returns-clause-below g c =
    below_turn g.run c.requires.1.1.0.start c.args.at c.args.shelf.now c.feed_join.new.shelf c.in_ok-feed_join.ensures.joined c.pass_down.new.shelf c.args.pending.now c.pass_down.new.pending c.in_ok-pass_down.ensures.down

pub returns-clause-nothing : goal.returns-clause-nothing
returns-clause-nothing g c = λ none. absurd (true≢false none)

pub returns-clause-passed : goal.returns-clause-passed
returns-clause-passed g c =
    busy_turn g.run c.requires.1.1.0.start c.args.at c.args.pending.now c.args.shelf.now c.feed_join.new.shelf c.requires.1.1.1.0 c.requires.1.1.1.1 c.in_ok-feed_join.ensures.joined
    c.pass_down.new.shelf c.pass_down.ensures.under c.pass_down.new.pending c.tell_joins.new.pending c.in_ok-pass_down.ensures.down c.in_ok-tell_joins.ensures

pub returns-in_err-feed_join-clause-cost : goal.returns-in_err-feed_join-clause-cost
returns-in_err-feed_join-clause-cost g c =
    turn_refused g.run c.args.at c.args.pending.now c.args.shelf.now c.requires.1.1.0 c.requires.1.1.1.0 (turn_start g.run c.args.at c.args.pending.now c.args.shelf.now c.requires.1.1.1.0) c.args.steps.now c.feed_join.new.steps c.feed_join.ensures.cost

pub returns-then-not-got_rows-clause-cost : goal.returns-then-not-got_rows-clause-cost
returns-then-not-got_rows-clause-cost g c = join_cost g.run c.args.at c.args.pending.now c.args.shelf.now c.feed_join.new.shelf c.requires.1.1.0 c.feed_join.ensures.under c.requires.1.1.1.0 c.in_ok-feed_join.ensures.joined (turn_start g.run c.args.at c.args.pending.now c.args.shelf.now c.requires.1.1.1.0) c.args.steps.now c.feed_join.new.steps c.in_ok-feed_join.ensures.spent

pub returns-then-not-got_rows-clause-spent : goal.returns-then-not-got_rows-clause-spent
returns-then-not-got_rows-clause-spent g c = join_spent g.run c.args.at c.args.pending.now c.args.shelf.now c.feed_join.new.shelf c.requires.1.1.0 c.feed_join.ensures.under c.requires.1.1.1.0 c.in_ok-feed_join.ensures.joined (turn_start g.run c.args.at c.args.pending.now c.args.shelf.now c.requires.1.1.1.0) c.args.steps.now c.feed_join.new.steps c.in_ok-feed_join.ensures.spent

pub returns-in_err-pass_down-clause-cost : goal.returns-in_err-pass_down-clause-cost
returns-in_err-pass_down-clause-cost g c =
    down_cost g.run c.args.at c.args.pending.now c.args.shelf.now c.feed_join.new.shelf c.requires.1.1.0 c.feed_join.ensures.under c.requires.1.1.1.0 c.in_ok-feed_join.ensures.joined (turn_start g.run c.args.at c.args.pending.now c.args.shelf.now c.requires.1.1.1.0) c.args.steps.now c.feed_join.new.steps c.in_ok-feed_join.ensures.spent c.pass_down.new.steps
    (turn_paid g.run c.requires.1.1.0.start c.args.at (news_in g.run.store.changes c.feed_join.new.shelf c.args.at) (λ (number : ℕ). due g.run number - count_in g.run c.feed_join.new.shelf number) (left_due g.run c.args.at c.args.pending.now c.args.shelf.now c.feed_join.new.shelf c.requires.1.1.0 c.feed_join.ensures.under c.requires.1.1.1.0 c.in_ok-feed_join.ensures.joined (turn_start g.run c.args.at c.args.pending.now c.args.shelf.now c.requires.1.1.1.0) c.args.steps.now c.feed_join.new.steps c.in_ok-feed_join.ensures.spent) c.feed_join.new.steps c.pass_down.new.steps c.pass_down.ensures.cost)

pub returns-in_err-tell_joins-clause-cost : goal.returns-in_err-tell_joins-clause-cost
returns-in_err-tell_joins-clause-cost g c =
    down_cost g.run c.args.at c.args.pending.now c.args.shelf.now c.feed_join.new.shelf c.requires.1.1.0 c.feed_join.ensures.under c.requires.1.1.1.0 c.in_ok-feed_join.ensures.joined (turn_start g.run c.args.at c.args.pending.now c.args.shelf.now c.requires.1.1.1.0) c.args.steps.now c.feed_join.new.steps c.in_ok-feed_join.ensures.spent c.pass_down.new.steps
    (turn_paid g.run c.requires.1.1.0.start c.args.at (news_in g.run.store.changes c.feed_join.new.shelf c.args.at) (λ (number : ℕ). due g.run number - count_in g.run c.feed_join.new.shelf number) (left_due g.run c.args.at c.args.pending.now c.args.shelf.now c.feed_join.new.shelf c.requires.1.1.0 c.feed_join.ensures.under c.requires.1.1.1.0 c.in_ok-feed_join.ensures.joined (turn_start g.run c.args.at c.args.pending.now c.args.shelf.now c.requires.1.1.1.0) c.args.steps.now c.feed_join.new.steps c.in_ok-feed_join.ensures.spent) c.feed_join.new.steps c.pass_down.new.steps c.pass_down.ensures.cost)

pub returns-clause-cost : goal.returns-clause-cost
returns-clause-cost g c =
    down_cost g.run c.args.at c.args.pending.now c.args.shelf.now c.feed_join.new.shelf c.requires.1.1.0 c.feed_join.ensures.under c.requires.1.1.1.0 c.in_ok-feed_join.ensures.joined (turn_start g.run c.args.at c.args.pending.now c.args.shelf.now c.requires.1.1.1.0) c.args.steps.now c.feed_join.new.steps c.in_ok-feed_join.ensures.spent c.pass_down.new.steps
    (turn_paid g.run c.requires.1.1.0.start c.args.at (news_in g.run.store.changes c.feed_join.new.shelf c.args.at) (λ (number : ℕ). due g.run number - count_in g.run c.feed_join.new.shelf number) (left_due g.run c.args.at c.args.pending.now c.args.shelf.now c.feed_join.new.shelf c.requires.1.1.0 c.feed_join.ensures.under c.requires.1.1.1.0 c.in_ok-feed_join.ensures.joined (turn_start g.run c.args.at c.args.pending.now c.args.shelf.now c.requires.1.1.1.0) c.args.steps.now c.feed_join.new.steps c.in_ok-feed_join.ensures.spent) c.feed_join.new.steps c.pass_down.new.steps c.pass_down.ensures.cost)

pub returns-clause-spent : goal.returns-clause-spent
returns-clause-spent g c =
    down_spent g.run c.args.at c.args.pending.now c.args.shelf.now c.feed_join.new.shelf c.requires.1.1.0 c.feed_join.ensures.under c.requires.1.1.1.0 c.in_ok-feed_join.ensures.joined (turn_start g.run c.args.at c.args.pending.now c.args.shelf.now c.requires.1.1.1.0) c.args.steps.now c.feed_join.new.steps c.in_ok-feed_join.ensures.spent c.pass_down.new.shelf c.args.pending.now c.pass_down.new.pending c.in_ok-pass_down.ensures.down c.pass_down.new.steps
    (turn_paid g.run c.requires.1.1.0.start c.args.at (news_in g.run.store.changes c.feed_join.new.shelf c.args.at) (λ (number : ℕ). count_in g.run c.pass_down.new.shelf number - count_in g.run c.feed_join.new.shelf number)
    (made_due g.run c.args.at c.args.pending.now c.args.shelf.now c.feed_join.new.shelf c.requires.1.1.0 c.feed_join.ensures.under c.requires.1.1.1.0 c.in_ok-feed_join.ensures.joined (turn_start g.run c.args.at c.args.pending.now c.args.shelf.now c.requires.1.1.1.0) c.args.steps.now c.feed_join.new.steps c.in_ok-feed_join.ensures.spent c.pass_down.new.shelf c.args.pending.now c.pass_down.new.pending c.in_ok-pass_down.ensures.down) c.feed_join.new.steps c.pass_down.new.steps c.pass_down.ensures.cost)

pub returns-in_err-feed_join-clause-shared : goal.returns-in_err-feed_join-clause-shared
returns-in_err-feed_join-clause-shared g c = λ held counted.
    let less = own_refused g.run c.args.at c.args.pending.now c.args.shelf.now c.requires.1.1.0 c.requires.1.1.1.0 (turn_start g.run c.args.at c.args.pending.now c.args.shelf.now c.requires.1.1.1.0) c.args.steps.now c.feed_join.new.steps c.feed_join.ensures.cost in
    omega arith

pub returns-then-not-got_rows-clause-shared : goal.returns-then-not-got_rows-clause-shared
returns-then-not-got_rows-clause-shared g c = λ held counted.
    let less = own_join_cost g.run c.args.at c.args.pending.now c.args.shelf.now c.feed_join.new.shelf c.requires.1.1.0 c.feed_join.ensures.under c.requires.1.1.1.0 c.in_ok-feed_join.ensures.joined (turn_start g.run c.args.at c.args.pending.now c.args.shelf.now c.requires.1.1.1.0) c.args.steps.now c.feed_join.new.steps c.in_ok-feed_join.ensures.spent in
    omega arith

pub returns-then-not-got_rows-clause-split : goal.returns-then-not-got_rows-clause-split
returns-then-not-got_rows-clause-split g c = λ held counted.
    let less = own_joined g.run c.args.at c.args.pending.now c.args.shelf.now c.feed_join.new.shelf c.requires.1.1.0 c.feed_join.ensures.under c.requires.1.1.1.0 c.in_ok-feed_join.ensures.joined (turn_start g.run c.args.at c.args.pending.now c.args.shelf.now c.requires.1.1.1.0) c.args.steps.now c.feed_join.new.steps c.in_ok-feed_join.ensures.spent in
    omega arith

pub returns-in_err-pass_down-clause-shared : goal.returns-in_err-pass_down-clause-shared
returns-in_err-pass_down-clause-shared g c = shared_cost g.run c.args.at c.args.pending.now c.args.shelf.now c.feed_join.new.shelf c.requires.1.1.0 c.feed_join.ensures.under c.requires.1.1.1.0 c.in_ok-feed_join.ensures.joined (turn_start g.run c.args.at c.args.pending.now c.args.shelf.now c.requires.1.1.1.0) c.args.steps.now c.feed_join.new.steps c.in_ok-feed_join.ensures.spent c.pass_down.new.steps c.pass_down.ensures.cost

pub returns-in_err-tell_joins-clause-shared : goal.returns-in_err-tell_joins-clause-shared
returns-in_err-tell_joins-clause-shared g c = shared_cost g.run c.args.at c.args.pending.now c.args.shelf.now c.feed_join.new.shelf c.requires.1.1.0 c.feed_join.ensures.under c.requires.1.1.1.0 c.in_ok-feed_join.ensures.joined (turn_start g.run c.args.at c.args.pending.now c.args.shelf.now c.requires.1.1.1.0) c.args.steps.now c.feed_join.new.steps c.in_ok-feed_join.ensures.spent c.pass_down.new.steps c.pass_down.ensures.cost

pub returns-clause-shared : goal.returns-clause-shared
returns-clause-shared g c = shared_cost g.run c.args.at c.args.pending.now c.args.shelf.now c.feed_join.new.shelf c.requires.1.1.0 c.feed_join.ensures.under c.requires.1.1.1.0 c.in_ok-feed_join.ensures.joined (turn_start g.run c.args.at c.args.pending.now c.args.shelf.now c.requires.1.1.1.0) c.args.steps.now c.feed_join.new.steps c.in_ok-feed_join.ensures.spent c.pass_down.new.steps c.pass_down.ensures.cost

pub returns-clause-split : goal.returns-clause-split
returns-clause-split g c = λ held counted.
    shared_spent g.run c.args.at c.args.pending.now c.args.shelf.now c.feed_join.new.shelf c.requires.1.1.0 c.feed_join.ensures.under c.requires.1.1.1.0 c.in_ok-feed_join.ensures.joined (turn_start g.run c.args.at c.args.pending.now c.args.shelf.now c.requires.1.1.1.0) c.args.steps.now c.feed_join.new.steps c.in_ok-feed_join.ensures.spent c.pass_down.new.steps c.pass_down.ensures.cost held counted c.pass_down.new.shelf c.args.pending.now c.pass_down.new.pending c.in_ok-pass_down.ensures.down

pub is_read-requires : goal.is_read-requires
is_read-requires g c = there_up g.run c.feed_join.new.shelf c.feed_join.ensures.under c.args.at (turn_start g.run c.args.at c.args.pending.now c.args.shelf.now c.requires.1.1.1.0)

pub returns-then-not-is_read-clause-passed : goal.returns-then-not-is_read-clause-passed
returns-then-not-is_read-clause-passed g c =
    let files = c.feed_join.new.shelf in
    let under = c.feed_join.ensures.under in
    let keys = c.args.pending.now in
    let unread = subst (TellsRead files c.args.at) c.if-not-is_read.true c.is_read.ensures in
    busy_turn g.run c.requires.1.1.0.start c.args.at keys c.args.shelf.now files c.requires.1.1.1.0 c.requires.1.1.1.1 c.in_ok-feed_join.ensures.joined
    files under keys keys (nothing_down g.run files under c.args.at unread keys) (nothing_told g.run files under c.args.at unread keys)

pub returns-then-not-is_read-clause-below : goal.returns-then-not-is_read-clause-below
returns-then-not-is_read-clause-below g c = below_join g.run c.requires.1.1.0.start c.args.at c.args.shelf.now c.feed_join.new.shelf c.in_ok-feed_join.ensures.joined

pub returns-then-not-is_read-clause-nothing : goal.returns-then-not-is_read-clause-nothing
returns-then-not-is_read-clause-nothing g c = λ none. absurd (true≢false none)

pub returns-then-not-is_read-clause-cost : goal.returns-then-not-is_read-clause-cost
returns-then-not-is_read-clause-cost g c = join_cost g.run c.args.at c.args.pending.now c.args.shelf.now c.feed_join.new.shelf c.requires.1.1.0 c.feed_join.ensures.under c.requires.1.1.1.0 c.in_ok-feed_join.ensures.joined (turn_start g.run c.args.at c.args.pending.now c.args.shelf.now c.requires.1.1.1.0) c.args.steps.now c.feed_join.new.steps c.in_ok-feed_join.ensures.spent

pub returns-then-not-is_read-clause-spent : goal.returns-then-not-is_read-clause-spent
returns-then-not-is_read-clause-spent g c = join_spent g.run c.args.at c.args.pending.now c.args.shelf.now c.feed_join.new.shelf c.requires.1.1.0 c.feed_join.ensures.under c.requires.1.1.1.0 c.in_ok-feed_join.ensures.joined (turn_start g.run c.args.at c.args.pending.now c.args.shelf.now c.requires.1.1.1.0) c.args.steps.now c.feed_join.new.steps c.in_ok-feed_join.ensures.spent

pub returns-then-not-is_read-clause-shared : goal.returns-then-not-is_read-clause-shared
returns-then-not-is_read-clause-shared g c = λ held counted.
    let less = own_join_cost g.run c.args.at c.args.pending.now c.args.shelf.now c.feed_join.new.shelf c.requires.1.1.0 c.feed_join.ensures.under c.requires.1.1.1.0 c.in_ok-feed_join.ensures.joined (turn_start g.run c.args.at c.args.pending.now c.args.shelf.now c.requires.1.1.1.0) c.args.steps.now c.feed_join.new.steps c.in_ok-feed_join.ensures.spent in
    omega arith

pub returns-then-not-is_read-clause-split : goal.returns-then-not-is_read-clause-split
returns-then-not-is_read-clause-split g c = λ held counted.
    let less = own_joined g.run c.args.at c.args.pending.now c.args.shelf.now c.feed_join.new.shelf c.requires.1.1.0 c.feed_join.ensures.under c.requires.1.1.1.0 c.in_ok-feed_join.ensures.joined (turn_start g.run c.args.at c.args.pending.now c.args.shelf.now c.requires.1.1.1.0) c.args.steps.now c.feed_join.new.steps c.in_ok-feed_join.ensures.spent in
    omega arith
