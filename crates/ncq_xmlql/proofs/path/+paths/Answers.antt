use Rattle.std.proofs.Common.{refl, sym}
use Rattle.std.proofs.lemmas.Result.{err_from_is_err_and}
use Rattle.ncq_xmlql.specs.PathReading.{starts_dot, starts_bar, dotted_at, barred_at, step_of, steps_of, sequence_of, alternatives_of, path_at}
use Rattle.ncq_xmlql.proofs.Loops.{many_go_on, many_fail, many_end}
use Rattle.ncq_xmlql.proofs.PathComplete.{dotted_shorter, barred_shorter}
use Rattle.ncq_xmlql.proofs.path.+paths.Goals as goal

pub alternatives_at-returns-in_err-path : goal.alternatives_at-returns-in_err-path
alternatives_at-returns-in_err-path t c =
    let p = err_from_is_err_and c.from_residual.result c.from_residual.ensures.1 in
    let one = barred_at (sequence_of (path_at c.args.depth)) in
    rw (p.1, p.2) (many_fail starts_bar one refl (barred_shorter c.args.depth) c.in_err-path.field-0.0 c.sequences.paths c.sequences.rest.now (alternatives_of (path_at c.args.depth) c.args.tokens.now) (sym c.sequences-test.ensures) c.in_err-path.ensures c.sequences.invariant)

pub alternatives_at-sequences-smaller : goal.alternatives_at-sequences-smaller
alternatives_at-sequences-smaller t c = barred_shorter c.args.depth c.sequences.rest.now (c.in_ok-path.path, c.in_ok-path.next.now) c.in_ok-path.ensures

pub alternatives_at-sequences-preserved : goal.alternatives_at-sequences-preserved
alternatives_at-sequences-preserved t c =
    let one = barred_at (sequence_of (path_at c.args.depth)) in
    rw c.in_ok-push.ensures.ok (many_go_on starts_bar one refl (barred_shorter c.args.depth) c.sequences.paths c.sequences.rest.now c.in_ok-path.path c.in_ok-path.next.now (alternatives_of (path_at c.args.depth) c.args.tokens.now) (sym c.sequences-test.ensures) c.in_ok-path.ensures c.sequences.invariant)

pub alternatives_at-returns : goal.alternatives_at-returns
alternatives_at-returns t c = many_end starts_bar (barred_at (sequence_of (path_at c.args.depth))) c.sequences.paths c.sequences.rest.now (alternatives_of (path_at c.args.depth) c.args.tokens.now) (sym c.sequences-test.ensures) c.sequences.invariant

pub steps_at-returns-in_err-path : goal.steps_at-returns-in_err-path
steps_at-returns-in_err-path t c =
    let p = err_from_is_err_and c.from_residual.result c.from_residual.ensures.1 in
    let one = dotted_at (step_of (path_at c.args.depth)) in
    rw (p.1, p.2) (many_fail starts_dot one refl (dotted_shorter c.args.depth) c.in_err-path.field-0.0 c.steps.paths c.steps.rest.now (steps_of (path_at c.args.depth) c.args.tokens.now) (sym c.steps-test.ensures) c.in_err-path.ensures c.steps.invariant)

pub steps_at-steps-smaller : goal.steps_at-steps-smaller
steps_at-steps-smaller t c = dotted_shorter c.args.depth c.steps.rest.now (c.in_ok-path.path, c.in_ok-path.next.now) c.in_ok-path.ensures

pub steps_at-steps-preserved : goal.steps_at-steps-preserved
steps_at-steps-preserved t c =
    let one = dotted_at (step_of (path_at c.args.depth)) in
    rw c.in_ok-push.ensures.ok (many_go_on starts_dot one refl (dotted_shorter c.args.depth) c.steps.paths c.steps.rest.now c.in_ok-path.path c.in_ok-path.next.now (steps_of (path_at c.args.depth) c.args.tokens.now) (sym c.steps-test.ensures) c.in_ok-path.ensures c.steps.invariant)

pub steps_at-returns : goal.steps_at-returns
steps_at-returns t c = many_end starts_dot (dotted_at (step_of (path_at c.args.depth))) c.steps.paths c.steps.rest.now (steps_of (path_at c.args.depth) c.args.tokens.now) (sym c.steps-test.ensures) c.steps.invariant
