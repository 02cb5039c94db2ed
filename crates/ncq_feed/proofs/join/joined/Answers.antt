use Rattle.std.proofs.Common.{arith}
use Rattle.ncq_midfile.specs.Shown.{shown, rows_below}
use Rattle.ncq_feed.proofs.GrowthLaws.{stands_up}
use Rattle.ncq_feed.proofs.JoinLaws.{join_file, left_there, right_there, asks_left_base, asks_right_base, asks_sound_before, asks_sound_now, asks_lefts, asks_rights, told_counts, told_cost, rows_due, joined_gets, joined_fit}
use Rattle.ncq_feed.proofs.join.joined.Goals as goal

pub content-requires : goal.content-requires
content-requires g c = left_there g.run c.args.shelf.now c.requires.1.1.0 c.args.at c.args.left c.args.right c.requires.1.1.1.1

pub content-requires-2 : goal.content-requires-2
content-requires-2 g c = right_there g.run c.args.shelf.now c.requires.1.1.0 c.args.at c.args.left c.args.right c.requires.1.1.1.1

pub pairs_of-requires : goal.pairs_of-requires
pairs_of-requires g c = join_file g.run c.args.shelf.now c.requires.1.1.0 c.args.at c.args.left c.args.right c.requires.1.1.1.1

pub join_delta-requires : goal.join_delta-requires
join_delta-requires g c =
    let files = c.args.shelf.now in
    let under = c.requires.1.1.0 in
    let j = c.requires.1.1.1.1 in
    let known = c.requires.1.1.1.0 c.args.left c.args.right j in
    let s = stands_up g.run files under _ c.args.at j.stands in
    let p = c.pairs_of.ensures j.first j.second j.pairs s in
    record {
      left_base = asks_left_base g.run files under c.args.at c.args.left c.args.right j known (shown c.content.result) (shown c.content-2.result) c.content.ensures.content c.content-2.ensures.content c.args.now c.requires.1.0 c.pairs_of.result.now p;
      right_base = asks_right_base g.run files under c.args.at c.args.left c.args.right j known (shown c.content.result) (shown c.content-2.result) c.content.ensures.content c.content-2.ensures.content c.args.now c.requires.1.0 c.pairs_of.result.now p;
      sound_before = asks_sound_before g.run files under c.args.at c.args.left c.args.right j known (shown c.content.result) (shown c.content-2.result) c.content.ensures.content c.content-2.ensures.content c.args.now c.requires.1.0 c.pairs_of.result.now p;
      sound_now = asks_sound_now g.run files under c.args.at c.args.left c.args.right j known (shown c.content.result) (shown c.content-2.result) c.content.ensures.content c.content-2.ensures.content c.args.now c.requires.1.0 c.pairs_of.result.now p;
      lefts = asks_lefts g.run files under c.args.at c.args.left c.args.right j (rows_below c.content.result) c.content.ensures.wide c.pairs_of.result.now p;
      rights = asks_rights g.run files under c.args.at c.args.left c.args.right j (rows_below c.content-2.result) c.content-2.ensures.wide c.pairs_of.result.now p;
    }

pub returns-clause-rows : goal.returns-clause-rows
returns-clause-rows g c =
    let files = c.args.shelf.now in
    let under = c.requires.1.1.0 in
    let j = c.requires.1.1.1.1 in
    let known = c.requires.1.1.1.0 c.args.left c.args.right j in
    let s = stands_up g.run files under _ c.args.at j.stands in
    let p = c.pairs_of.ensures j.first j.second j.pairs s in
    joined_gets g.run files under c.args.at c.args.left c.args.right j known (shown c.content.result) (shown c.content-2.result) c.content.ensures.content c.content-2.ensures.content c.in_ok-rows.rows
    (told_counts g.run files under c.args.at c.args.left c.args.right j known (shown c.content.result) (shown c.content-2.result) c.content.ensures.content c.content-2.ensures.content c.args.now c.requires.1.0 c.pairs_of.result.now p c.in_ok-rows.rows c.in_ok-rows.ensures.rows)

pub returns-clause-fits : goal.returns-clause-fits
returns-clause-fits g c =
    let files = c.args.shelf.now in
    let under = c.requires.1.1.0 in
    let j = c.requires.1.1.1.1 in
    let known = c.requires.1.1.1.0 c.args.left c.args.right j in
    let s = stands_up g.run files under _ c.args.at j.stands in
    let p = c.pairs_of.ensures j.first j.second j.pairs s in
    joined_fit g.run files under c.args.at c.args.left c.args.right j known (shown c.content.result) (shown c.content-2.result) c.content.ensures.content c.content-2.ensures.content c.in_ok-rows.rows
    (told_counts g.run files under c.args.at c.args.left c.args.right j known (shown c.content.result) (shown c.content-2.result) c.content.ensures.content c.content-2.ensures.content c.args.now c.requires.1.0 c.pairs_of.result.now p c.in_ok-rows.rows c.in_ok-rows.ensures.rows)

pub returns-in_err-rows-clause-cost : goal.returns-in_err-rows-clause-cost
returns-in_err-rows-clause-cost g c =
    let files = c.args.shelf.now in
    let under = c.requires.1.1.0 in
    let j = c.requires.1.1.1.1 in
    let known = c.requires.1.1.1.0 c.args.left c.args.right j in
    let s = stands_up g.run files under _ c.args.at j.stands in
    let p = c.pairs_of.ensures j.first j.second j.pairs s in
    told_cost g.run files under c.args.at c.args.left c.args.right j known (shown c.content.result) (shown c.content-2.result) c.content.ensures.content c.content-2.ensures.content c.args.steps.now c.join_delta.new.steps c.args.now c.requires.1.0 c.pairs_of.result.now p c.join_delta.ensures.cost

pub returns-clause-cost : goal.returns-clause-cost
returns-clause-cost g c =
    let files = c.args.shelf.now in
    let under = c.requires.1.1.0 in
    let j = c.requires.1.1.1.1 in
    let known = c.requires.1.1.1.0 c.args.left c.args.right j in
    let s = stands_up g.run files under _ c.args.at j.stands in
    let p = c.pairs_of.ensures j.first j.second j.pairs s in
    told_cost g.run files under c.args.at c.args.left c.args.right j known (shown c.content.result) (shown c.content-2.result) c.content.ensures.content c.content-2.ensures.content c.args.steps.now c.join_delta.new.steps c.args.now c.requires.1.0 c.pairs_of.result.now p c.join_delta.ensures.cost

pub returns-clause-spent : goal.returns-clause-spent
returns-clause-spent g c =
    let files = c.args.shelf.now in
    let under = c.requires.1.1.0 in
    let j = c.requires.1.1.1.1 in
    let known = c.requires.1.1.1.0 c.args.left c.args.right j in
    let s = stands_up g.run files under _ c.args.at j.stands in
    let p = c.pairs_of.ensures j.first j.second j.pairs s in
    let cost = told_cost g.run files under c.args.at c.args.left c.args.right j known (shown c.content.result) (shown c.content-2.result) c.content.ensures.content c.content-2.ensures.content c.args.steps.now c.join_delta.new.steps c.args.now c.requires.1.0 c.pairs_of.result.now p c.join_delta.ensures.cost in
    let rows = rows_due g.run files under c.args.at c.args.left c.args.right j known (shown c.content.result) (shown c.content-2.result) c.content.ensures.content c.content-2.ensures.content c.in_ok-rows.rows
    (told_counts g.run files under c.args.at c.args.left c.args.right j known (shown c.content.result) (shown c.content-2.result) c.content.ensures.content c.content-2.ensures.content c.args.now c.requires.1.0 c.pairs_of.result.now p c.in_ok-rows.rows c.in_ok-rows.ensures.rows) in
    omega arith
