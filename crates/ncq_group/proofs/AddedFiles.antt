-- A file that was put into a shelf is a new file of its expression, whether it has rows of its own or shares them.
use Rattle.std.proofs.Common.{◌≡◌, ℕ, List, length, map, Some, Ok, Err, Result, OnOk, sym, ap, ◌∙◌, subst}
use Rattle.std.specs.List.{AllByRecursion}
use Rattle.std.specs.FinMap.{get, insert}
use Rattle.ncq_plan.specs.declared.expr.Expr.{Expr}
use Rattle.ncq_plan.specs.Exprs.{World, expr_width, rows_in}
use Rattle.ncq_base.specs.Counts.{SameCounts}
use Rattle.ncq_row.specs.Embeddings.{Row}
use Rattle.ncq_midfile.specs.Content.{IsContent}
use Rattle.ncq_midfile.specs.Files.{FileState}
use Rattle.ncq_midfile.specs.Made.{gained_at}
use Rattle.ncq_shelf.specs.KeptFiles.{KeptFile, Files}
use Rattle.ncq_shelf.specs.Contents.{Fits, IsNewAt, IsUpTo}
use Rattle.ncq_shelf.proofs.CallerLemmas.{put_same}
use Rattle.ncq_group.specs.Grown.{IsAdded, new_file}
use Rattle.ncq_group.proofs.Fresh.{fresh_up_to, fresh_content, fresh_wide}

module _ (old new : Files) (number : ℕ) (expr : Expr) (now : ℕ) (world : World) (fits : Fits now world old) where
  pub ranged_added : {T E : Type 0} (r : Result T E) → OnOk r ((kept : KeptFile) × (new ≡ insert old number kept) × IsNewAt now expr kept)
      → OnOk r ((world : World) → Fits now world old → Fits now world new) → OnOk r (IsAdded old number expr now world new)
  ranged_added (Ok x) put keeps =
      let kept = put.0 in
      let made = put.2 in
      let whole : kept ≡ new_file expr kept.content = λ i. record { expr = made.expr i; uses = made.uses i; content = kept.content } in
      let here : get new number ≡ Some kept = subst (λ f. get f number ≡ Some kept) (sym put.1) (put_same old number kept) in
      record {
        content = kept.content;
        files = put.1 ∙ ap (insert old number) whole;
        base = made.base;
        up_to = made.up_to;
        wide = subst (λ e. AllByRecursion (λ r. length r.row ≡ expr_width e) kept.content.rows) made.expr made.wide;
        holds = subst (λ e. IsContent now kept.content.rows (rows_in e world)) made.expr (keeps world fits number kept here);
      }
  ranged_added (Err e) put keeps = tt

-- one with these rows, each there from the base on
module _ (old mid new : Files) (number : ℕ) (expr : Expr) (now n : ℕ) (world : World) (content : FileState) (rows : List Row) (same : mid ≡ old) (n_is : n ≡ now)
    (base : content.base ≡ n) (rows_are : content.rows ≡ map (gained_at n) rows) (wide : AllByRecursion (λ row. length row ≡ expr_width expr) rows) (counts : SameCounts rows (rows_in expr world)) where
  content_is : content ≡ record { base = now; rows = map (gained_at now) rows }
  content_is = λ i. record { base = (base ∙ n_is) i; rows = (rows_are ∙ ap (λ k. map (gained_at k) rows) n_is) i }

  pub own_added : {T E : Type 0} (r : Result T E) → OnOk r (new ≡ insert mid number (new_file expr content)) → OnOk r (IsAdded old number expr now world new)
  own_added (Ok x) put = record {
    content = content;
    files = put ∙ ap (λ f. insert f number (new_file expr content)) same;
    base = base ∙ n_is;
    up_to = subst (IsUpTo now) (sym content_is) (fresh_up_to now rows);
    wide = subst (λ (c : FileState). AllByRecursion (λ r. length r.row ≡ expr_width expr) c.rows) (sym content_is) (fresh_wide now (expr_width expr) rows wide);
    holds = subst (λ (c : FileState). IsContent now c.rows (rows_in expr world)) (sym content_is) (fresh_content now rows (rows_in expr world) counts);
  }
  own_added (Err e) put = tt
