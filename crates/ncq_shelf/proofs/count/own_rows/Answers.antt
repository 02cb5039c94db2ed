use Rattle.std.proofs.Common.{ℕ, ◌-◌, ◌^◌, ◌∙◌, ap, min, ◌+◌}
use Rattle.ncq_shelf.specs.Shown.{count_of}
use Rattle.ncq_shelf.specs.declared.file.File.{File}
use Rattle.ncq_shelf.proofs.RowSums.{none_so_far, one_more, none_left}
use Rattle.ncq_shelf.proofs.count.own_rows.Goals as goal

pub loop-file-init : goal.loop-file-init
loop-file-init c =
    none_so_far (λ (entry : ℕ × File). count_of entry.1.content) (2 ^ 64 - 1) c.into_iter-file-iterator.result c.args.files.now.entries c.into_iter-file-iterator.ensures.into_iter_gives.0

pub loop-file-preserved : goal.loop-file-preserved
loop-file-preserved c =
    one_more (λ (entry : ℕ × File). count_of entry.1.content) (2 ^ 64 - 1) c.loop-file.count c.saturating_add-count.result (c.in-Some.field-0-0.now, c.in-Some.file.now) c.loop-file.file-iterator c.next.new.self c.args.files.now.entries
    (c.saturating_add-count.ensures ∙ ap (λ n. min (c.loop-file.count + n) (2 ^ 64 - 1)) c.own_count.ensures) c.in-Some.ensures.steps c.loop-file.invariant

pub returns-clause-count : goal.returns-clause-count
returns-clause-count c =
    none_left (λ (entry : ℕ × File). count_of entry.1.content) (2 ^ 64 - 1) c.loop-file.count c.loop-file.file-iterator c.args.files.now.entries c.in-None.ensures.steps.0 c.loop-file.invariant
