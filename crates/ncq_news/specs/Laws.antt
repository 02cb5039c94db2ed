-- The law of what subscribers are told.
use Rattle.std.specs.Prelude.{◌≡◌, ℕ, ◌≤◌, List, []}
use Rattle.std.specs.List.{AllByRecursion}
use Rattle.ncq_bag.specs.Bags.{difference}
use Rattle.ncq_row.specs.Embeddings.{Row}
use Rattle.ncq_plan.specs.Relations.{Relations}
use Rattle.ncq_plan.specs.declared.query.NormalQuery.{NormalQuery}
use Rattle.ncq_midfile.specs.Content.{since, IsContent}
use Rattle.ncq_midfile.specs.declared.signed.SignedRow.{SignedRow}
use Rattle.ncq_news.specs.News.{entries_of, answers_in}

-- where no row's number exceeds the last: all rows tell the answer of the content there, and those
-- behind a mark the difference of that answer and the answer of the content at the mark
pub record NewsTellTheDifference : Type 0 where
  pub first : (relations : Relations) (query : NormalQuery) (last : ℕ) (rows : List SignedRow)
      (now : List Row)
      → AllByRecursion (λ r. r.number ≤ last) rows → IsContent last rows now
      → entries_of relations query rows ≡ difference (answers_in relations query now) []
  pub later : (relations : Relations) (query : NormalQuery) (mark last : ℕ)
      (rows : List SignedRow) (before now : List Row)
      → AllByRecursion (λ r. r.number ≤ last) rows → mark ≤ last
      → IsContent mark rows before → IsContent last rows now
      → entries_of relations query (since mark rows)
      ≡ difference (answers_in relations query now) (answers_in relations query before)
