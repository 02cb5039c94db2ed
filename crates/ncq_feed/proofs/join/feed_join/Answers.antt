use Rattle.std.proofs.Common.{sym, subst, arith}
use Rattle.ncq_shelf.specs.KeptFiles.{Files}
use Rattle.ncq_feed.specs.Runs.{IsUnderWay, IsGiven, JoinGetsFrom, news_in}
use Rattle.ncq_feed.specs.JoinFeeds.{AreKnown}
use Rattle.ncq_feed.proofs.GrowthLaws.{there_up, joins_back}
use Rattle.ncq_feed.proofs.JoinLaws.{no_join, join_given, none_yet, all_given}
use Rattle.ncq_feed.proofs.RangeLaws.{no_range-join}
use Rattle.ncq_feed.proofs.join.feed_join.Goals as goal

pub sides_of-requires : goal.sides_of-requires
sides_of-requires g c = there_up g.run c.args.shelf.now c.requires.1.1.0 c.args.at c.requires.1.1.1.0

pub index_sides-requires : goal.index_sides-requires
index_sides-requires g c = (c.requires.1.1.0, joins_back g.run c.args.shelf.now c.requires.1.1.0 c.args.at c.in-Some.left c.in-Some.right c.in-Some.ensures.some)

pub joined-requires : goal.joined-requires
joined-requires g c = λ κs within.
    let same = sym c.in_ok-index_sides.ensures in (
      within,
      (
        c.requires.1.0,
        (
          subst (IsUnderWay g.run) same c.requires.1.1.0,
          (
            subst (AreKnown g.run c.args.at) same c.requires.1.1.1.1.0,
            joins_back g.run c.args.shelf.now c.requires.1.1.0 c.args.at c.in-Some.left c.in-Some.right c.in-Some.ensures.some,
          ),
        ),
      ),
    )

pub append_all-requires : goal.append_all-requires
append_all-requires g c =
    let same = sym c.in_ok-index_sides.ensures in
    let j = joins_back g.run c.args.shelf.now c.requires.1.1.0 c.args.at c.in-Some.left c.in-Some.right c.in-Some.ensures.some in
    (subst (IsUnderWay g.run) same c.requires.1.1.0, (c.requires.1.1.1.0, (no_range-join g.run.files c.args.at j.first j.second j.pairs j.stands, c.in_ok-rows.ensures.fits)))

pub returns-in_default-clause-joined : goal.returns-in_default-clause-joined
returns-in_default-clause-joined g c = no_join g.run c.args.shelf.now c.requires.1.1.0 c.args.at c.in_default.ensures.none

pub returns-clause-joined : goal.returns-clause-joined
returns-clause-joined g c =
    let files = c.args.shelf.now in
    let same = c.in_ok-index_sides.ensures in
    join_given g.run files c.requires.1.1.0 c.args.at c.in-Some.left c.in-Some.right c.in-Some.ensures.some c.in_ok-rows.rows c.append_all.new.shelf
    (subst (λ (f : Files). JoinGetsFrom g.run c.args.at (news_in g.run.store.changes f c.in-Some.left) (news_in g.run.store.changes f c.in-Some.right) c.in_ok-rows.rows) same c.in_ok-rows.ensures.rows)
    (subst (λ (f : Files). IsGiven g.run c.args.at c.in_ok-rows.rows f c.append_all.new.shelf) same c.in_ok-append_all.ensures.given)

pub returns-in_default-clause-cost : goal.returns-in_default-clause-cost
returns-in_default-clause-cost g c = let few = c.requires.1.1.1.1.1 in omega arith

pub returns-in_err-index_sides-clause-cost : goal.returns-in_err-index_sides-clause-cost
returns-in_err-index_sides-clause-cost g c = let few = c.requires.1.1.1.1.1 in omega arith

pub returns-in_err-rows-clause-cost : goal.returns-in_err-rows-clause-cost
returns-in_err-rows-clause-cost g c =
    let j = joins_back g.run c.args.shelf.now c.requires.1.1.0 c.args.at c.in-Some.left c.in-Some.right c.in-Some.ensures.some in
    let none = none_yet g.run c.args.shelf.now c.args.at c.in-Some.left c.in-Some.right j (c.requires.1.1.1.1.0 c.in-Some.left c.in-Some.right j) in
    let cost = c.joined.ensures.cost in
    omega arith

pub returns-in_err-append_all-clause-cost : goal.returns-in_err-append_all-clause-cost
returns-in_err-append_all-clause-cost g c =
    let j = joins_back g.run c.args.shelf.now c.requires.1.1.0 c.args.at c.in-Some.left c.in-Some.right c.in-Some.ensures.some in
    let none = none_yet g.run c.args.shelf.now c.args.at c.in-Some.left c.in-Some.right j (c.requires.1.1.1.1.0 c.in-Some.left c.in-Some.right j) in
    let cost = c.joined.ensures.cost in
    omega arith

pub returns-clause-cost : goal.returns-clause-cost
returns-clause-cost g c =
    let j = joins_back g.run c.args.shelf.now c.requires.1.1.0 c.args.at c.in-Some.left c.in-Some.right c.in-Some.ensures.some in
    let none = none_yet g.run c.args.shelf.now c.args.at c.in-Some.left c.in-Some.right j (c.requires.1.1.1.1.0 c.in-Some.left c.in-Some.right j) in
    let cost = c.joined.ensures.cost in
    omega arith

pub returns-clause-spent : goal.returns-clause-spent
returns-clause-spent g c =
    let j = joins_back g.run c.args.shelf.now c.requires.1.1.0 c.args.at c.in-Some.left c.in-Some.right c.in-Some.ensures.some in
    let none = none_yet g.run c.args.shelf.now c.args.at c.in-Some.left c.in-Some.right j (c.requires.1.1.1.1.0 c.in-Some.left c.in-Some.right j) in
    let spent = c.in_ok-rows.ensures.spent in
    let same = c.in_ok-index_sides.ensures in
    let all = all_given g.run c.args.shelf.now c.args.at c.in-Some.left c.in-Some.right j (c.requires.1.1.1.1.0 c.in-Some.left c.in-Some.right j) c.in_ok-rows.rows c.append_all.new.shelf
    (subst (λ (f : Files). IsGiven g.run c.args.at c.in_ok-rows.rows f c.append_all.new.shelf) same c.in_ok-append_all.ensures.given) in
    omega arith
