use Rattle.std.proofs.Common.{[], ◌-◌, ap, ◌∙◌, refl, arith}
use Rattle.std.specs.List.{flat_map}
use Rattle.ncq_base.specs.Counts.{total_by, SameCounts}
use Rattle.ncq_midfile.specs.Content.{since, signed_at}
use Rattle.ncq_midfile.specs.Shown.{shown, rows_below}
use Rattle.ncq_delta.specs.declared.probe.Side.TheVariants.{Left}
use Rattle.ncq_delta.specs.Probes.{changed_on}
use Rattle.ncq_delta.proofs.JoinLaws.{change_is, change_length}
use Rattle.ncq_delta.proofs.change.join_delta.Goals as goal

pub returns-in_err-add_changes-clause-cost : goal.returns-in_err-add_changes-clause-cost
returns-in_err-add_changes-clause-cost g c = λ before now content_before content_now.
    let first = c.add_changes.ensures.cost before content_before in
    let right_changed = since (c.args.number - 1) (shown c.args.right.now).rows in
    let left_is = ap (λ ps. signed_at ps (rows_below c.args.left.now)) c.as_slice.ensures ∙ c.in_ok-left_changed.ensures.rows in
    let long = change_length c.args.pairs.now (since (c.args.number - 1) (shown c.args.left.now).rows) right_changed (signed_at c.as_slice.result.now (rows_below c.args.left.now)) right_changed before now left_is refl in
    omega arith

pub returns-in_err-add_changes-2-clause-cost : goal.returns-in_err-add_changes-2-clause-cost
returns-in_err-add_changes-2-clause-cost g c = λ before now content_before content_now.
    let first = c.add_changes.ensures.cost before content_before in
    let second = c.add_changes-2.ensures.cost now content_now in
    let left_is = ap (λ ps. signed_at ps (rows_below c.args.left.now)) c.as_slice.ensures ∙ c.in_ok-left_changed.ensures.rows in
    let right_is = ap (λ ps. signed_at ps (rows_below c.args.right.now)) c.as_slice-2.ensures ∙ c.in_ok-right_changed.ensures.rows in
    let long = change_length c.args.pairs.now (since (c.args.number - 1) (shown c.args.left.now).rows) (since (c.args.number - 1) (shown c.args.right.now).rows) (signed_at c.as_slice.result.now (rows_below c.args.left.now)) (signed_at c.as_slice-2.result.now (rows_below c.args.right.now)) before now left_is right_is in
    omega arith

pub returns-clause-rows : goal.returns-clause-rows
returns-clause-rows g c = λ before now content_before content_now.
    let none : SameCounts c.new-out.result [] = λ f. ap (total_by f) c.new-out.ensures in
    let left_is = ap (λ ps. signed_at ps (rows_below c.args.left.now)) c.as_slice.ensures ∙ c.in_ok-left_changed.ensures.rows in
    let right_is = ap (λ ps. signed_at ps (rows_below c.args.right.now)) c.as_slice-2.ensures ∙ c.in_ok-right_changed.ensures.rows in
    let lefts = signed_at c.as_slice.result.now (rows_below c.args.left.now) in
    let first = c.in_ok-add_changes.ensures.rows before [] content_before none in
    let both = c.in_ok-add_changes-2.ensures.rows now (flat_map (changed_on Left c.args.pairs.now before) lefts) content_now first in
    λ f. both f ∙ ap (total_by f) (change_is c.args.pairs.now (since (c.args.number - 1) (shown c.args.left.now).rows) (since (c.args.number - 1) (shown c.args.right.now).rows) lefts (signed_at c.as_slice-2.result.now (rows_below c.args.right.now)) before now left_is right_is)

pub returns-clause-cost : goal.returns-clause-cost
returns-clause-cost g c = λ before now content_before content_now.
    let first = c.add_changes.ensures.cost before content_before in
    let second = c.add_changes-2.ensures.cost now content_now in
    let left_is = ap (λ ps. signed_at ps (rows_below c.args.left.now)) c.as_slice.ensures ∙ c.in_ok-left_changed.ensures.rows in
    let right_is = ap (λ ps. signed_at ps (rows_below c.args.right.now)) c.as_slice-2.ensures ∙ c.in_ok-right_changed.ensures.rows in
    let long = change_length c.args.pairs.now (since (c.args.number - 1) (shown c.args.left.now).rows) (since (c.args.number - 1) (shown c.args.right.now).rows) (signed_at c.as_slice.result.now (rows_below c.args.left.now)) (signed_at c.as_slice-2.result.now (rows_below c.args.right.now)) before now left_is right_is in
    omega arith
