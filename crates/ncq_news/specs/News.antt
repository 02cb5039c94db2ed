-- What a subscriber is told of the signed rows of its file.
use Rattle.std.specs.Prelude.{ℕ, List, Option, Some, None}
use Rattle.std.specs.FinMap.{empty}
use Rattle.ncq_bag.specs.Bags.{differences}
use Rattle.ncq_bag.specs.declared.bag.Difference.{Difference}
use Rattle.ncq_row.specs.Embeddings.{Row}
use Rattle.ncq_plan.specs.declared.query.NormalQuery.{NormalQuery}
use Rattle.ncq_plan.specs.Relations.{Relations}
use Rattle.ncq_plan.specs.Residuals.{passes}
use Rattle.ncq_midfile.specs.Content.{since}
use Rattle.ncq_midfile.specs.declared.signed.SignedRow.{SignedRow}
use Rattle.ncq_delta.specs.Leads.{unnumbered}
use Rattle.ncq_callback.specs.Gathered.{answer_of, answers, counts_after}

-- the signed rows behind a mark; all of them where there is none
abbrev pub since_mark : Option ℕ → List SignedRow → List SignedRow
since_mark None rows = rows
since_mark (Some number) rows = since number rows

-- what the answer of a query gains and loses by signed rows
abbrev pub entries_of : Relations → NormalQuery → List SignedRow → List Difference
entries_of relations query rows =
    differences
    (counts_after (passes relations query.residual) (answer_of query.template) empty
    (unnumbered rows))

-- the canonical bytes of the answer, from rows of the plan
abbrev pub answers_in : Relations → NormalQuery → List Row → List (List ℕ)
answers_in relations query rows =
    answers (passes relations query.residual) (answer_of query.template) rows
