use Rattle.std.proofs.Common.{◌≡◌, drop}
use Rattle.std.specs.FinMap.{empty}
use Rattle.ncq_plan.specs.Relations.{relations}
use Rattle.ncq_plan.specs.Residuals.{passes}
use Rattle.ncq_midfile.specs.Content.{signed_at}
use Rattle.ncq_midfile.specs.Shown.{rows_below}
use Rattle.ncq_callback.specs.Gathered.{answer_of, counts_after}
use Rattle.ncq_delta.specs.Leads.{unnumbered}
use Rattle.ncq_news.proofs.firing.entries_since.Given as goal

-- what is counted already, with the rows at the places that are left
abbrev pub invariant-loop-place : goal.invariant-loop-place
invariant-loop-place g l =
    counts_after (passes (relations l.predicates.items (λ p. p.name) (λ p. p.relation)) l.query.residual) (answer_of l.query.template) l.gather.counts (unnumbered (signed_at (drop l.place-index l.place-items) (rows_below l.file)))
    ≡ counts_after (passes (relations l.predicates.items (λ p. p.name) (λ p. p.relation)) l.query.residual) (answer_of l.query.template) empty (unnumbered (signed_at l.place-items (rows_below l.file)))
