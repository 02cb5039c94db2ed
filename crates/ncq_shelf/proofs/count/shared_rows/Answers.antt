use Rattle.std.proofs.Common.{◌-◌, ◌^◌, ◌∙◌, ap, length, min, ◌+◌}
use Rattle.ncq_midfile.specs.Views.{RangeState}
use Rattle.ncq_shelf.specs.declared.group.Group.{Group}
use Rattle.ncq_shelf.proofs.RowSums.{none_so_far, one_more, none_left}
use Rattle.ncq_shelf.proofs.count.shared_rows.Goals as goal

pub loop-held-init : goal.loop-held-init
loop-held-init c =
    none_so_far (λ (entry : Group × RangeState). length entry.1.rows) (2 ^ 64 - 1) c.into_iter-held-iterator.result c.args.groups.now.entries c.into_iter-held-iterator.ensures.into_iter_gives.0

pub loop-held-preserved : goal.loop-held-preserved
loop-held-preserved c =
    one_more (λ (entry : Group × RangeState). length entry.1.rows) (2 ^ 64 - 1) c.loop-held.count c.saturating_add-count.result (c.in-Some.field-0-0.now, c.in-Some.held.now) c.loop-held.held-iterator c.next.new.self c.args.groups.now.entries
    (c.saturating_add-count.ensures ∙ ap (λ rows. min (c.loop-held.count + length rows) (2 ^ 64 - 1)) c.rows.ensures.rows) c.in-Some.ensures.steps c.loop-held.invariant

pub returns-clause-count : goal.returns-clause-count
returns-clause-count c =
    none_left (λ (entry : Group × RangeState). length entry.1.rows) (2 ^ 64 - 1) c.loop-held.count c.loop-held.held-iterator c.args.groups.now.entries c.in-None.ensures.steps.0 c.loop-held.invariant
