use Rattle.std.proofs.Common.{ap, map, sym, ◌∙◌}
use Rattle.std.specs.Prelude.{Some}
use Rattle.std.specs.declared.ops.Bound.TheVariants.{Included, Unbounded}
use Rattle.ncq_book.specs.Questions.{asked_by}
use Rattle.ncq_book.proofs.QuestionLaws.{listed_more, listed_still, stand_in_range}
use Rattle.ncq_book.proofs.listed.list_of.Goals as goal
use Rattle.ncq_book.proofs.listed.list_of.Goals.{in-Some-walk_to+in_ok-push, in_default-walk_to}

pub loop-install-init : goal.loop-install-init
loop-install-init c = (ap (map asked_by) c.in_ok-list.ensures.items, stand_in_range c.args.subscriptions.now (Included c.in-Some.first.now) Unbounded c.range-ahead.result (c.range-ahead.ensures.in_range tt))

pub loop-install-preserved : goal.loop-install-preserved
loop-install-preserved c =
    let asked = c.args.subscriptions.now.entries in
    let installs = c.args.installs.now in
    let at = c.loop-install.install-index in
    let list = c.loop-install.list.items in
    let was = c.loop-install.invariant.0 in (
      elim c.match-walk_to.branch [
        | in-Some-walk_to+in_ok-push w ↦
            ap (λ v. map asked_by v.items) w.list-is
            ∙ ap (map asked_by) w.in_ok-push.ensures.items
            ∙ listed_more asked installs at list c.loop-install-test.true was (record { subscription = w.get.result; question = w.question.result })
            (sym w.in-Some-walk_to.ensures.found ∙ (λ i. Some (record { subscription = sym w.get.ensures i; question = sym w.question.ensures i })))
        | in_default-walk_to w ↦ ap (λ v. map asked_by v.items) w.list-is ∙ listed_still asked installs at list c.loop-install-test.true was (sym w.in_default-walk_to.ensures.found)
      ],
      c.walk_to.ensures.ahead,
    )
