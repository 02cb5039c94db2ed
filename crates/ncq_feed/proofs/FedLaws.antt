-- What has been passed on to a file is what the change makes of its expression.
use Rattle.std.proofs.Common.{◌≡◌, ℕ, ◌<◌, ◌+◌, Bool, List, [], ◌∷◌, ◌++◌, cond, true, false, Some, refl, sym, ap, ◌∙◌, subst, arith}
use Rattle.std.specs.List.{filter, AllByRecursion}
use Rattle.std.specs.FinMap.{get}
use Rattle.ncq_row.specs.Embeddings.{Row}
use Rattle.ncq_plan.specs.declared.expr.Expr.{Expr}
use Rattle.ncq_plan.specs.declared.expr.Expr.TheVariants.{EqSel, RangeSel, Join}
use Rattle.ncq_plan.specs.Exprs.{rows_in}
use Rattle.ncq_plan.specs.Meets.{has_atom, is_within}
use Rattle.ncq_plan.specs.Deltas.{selected_delta, join_delta}
use Rattle.ncq_plan.specs.Totals.{SignedRow as PlainRow, SameChanges}
use Rattle.ncq_plan.proofs.CallerLemmas.{delta_equal, delta_range, delta_join, selected_same, join_delta_same, rows_are_wide}
use Rattle.ncq_change.specs.Stores.{world_in}
use Rattle.ncq_midfile.specs.declared.signed.SignedRow.{SignedRow}
use Rattle.ncq_midfile.specs.Content.{IsContent}
use Rattle.ncq_delta.specs.Leads.{unnumbered}
use Rattle.ncq_delta.proofs.LeadLaws.{same_delta}
use Rattle.ncq_shelf.specs.KeptFiles.{KeptFile, Files}
use Rattle.ncq_shelf.specs.Stands.{Stands}
use Rattle.ncq_shelf.specs.Readers.{SelectsFrom, JoinsFrom}
use Rattle.ncq_shelf.specs.Readers.SelectsFrom.{equal as equal_from, range as range_from}
use Rattle.ncq_shelf.proofs.CallerLemmas.{one_value}
use Rattle.ncq_feed.specs.Feeds.{delta_by, world_after}
use Rattle.ncq_feed.specs.Passing.{IsPassedTo}
use Rattle.ncq_feed.specs.Runs.{Run, IsStarted, AreRight, JoinGetsFrom, wiring_of, news_in}
use Rattle.ncq_feed.specs.JoinFeeds.{AreKnown}
use Rattle.ncq_feed.proofs.PassingLaws.{reached}
use Rattle.ncq_feed.proofs.WiringLaws.{selects_down, joins_down, IsFile, kind}
use Rattle.ncq_feed.proofs.ContentLaws.{content_after}
use Rattle.ncq_feed.proofs.Leads.{leads}

kept_changes : (test : Row → Bool) (rows : List SignedRow) → unnumbered (filter (λ r. test r.row) rows) ≡ selected_delta test (unnumbered rows)
kept_changes test [] = refl
kept_changes test (r ∷ rows) = elim (test r.row) as (λ b. unnumbered (cond b (r ∷ filter (λ r. test r.row) rows) (filter (λ r. test r.row) rows)) ≡ cond b (record { plus = r.plus; row = r.row } ∷ selected_delta test (unnumbered rows)) (selected_delta test (unnumbered rows))) [
  | true ↦ λ i. record { plus = r.plus; row = r.row } ∷ kept_changes test rows i
  | false ↦ kept_changes test rows
]

both_same : {xs ys zs : List PlainRow} → SameChanges xs ys → SameChanges ys zs → SameChanges xs zs
both_same a b = record { plus = λ f. a.plus f ∙ b.plus f; minus = λ f. a.minus f ∙ b.minus f }

module _ (run : Run) (start : IsStarted run) where
  abbrev delta : Expr → List PlainRow
  delta expr = delta_by run.store run.change expr

  -- the rows of a file stand for those of an expression that it is the file of
  at_expr : (number : ℕ) (rows : List SignedRow) (expr : Expr) → Stands run.files expr number → SameChanges (unnumbered rows) (delta expr) → AreRight run number rows
  at_expr number rows expr s same file at = subst (λ x. SameChanges (unnumbered rows) (delta x)) (sym s.of ∙ ap (λ f. f.expr) (one_value s.at at)) same

  of_expr : (number : ℕ) (rows : List SignedRow) (expr : Expr) (s : Stands run.files expr number) → AreRight run number rows → SameChanges (unnumbered rows) (delta expr)
  of_expr number rows expr s right = subst (λ x. SameChanges (unnumbered rows) (delta x)) s.of (right s.file s.at)

  select_right : (number input : ℕ) (test : Row → Bool) (whole inner : Expr) → Stands run.files whole number → Stands run.files inner input → delta whole ≡ selected_delta test (delta inner)
      → (rows : List SignedRow) → AreRight run input rows → AreRight run number (filter (λ r. test r.row) rows)
  select_right number input test whole inner s t is rows right =
      at_expr number (filter (λ r. test r.row) rows) whole s
      (subst (λ x. SameChanges x (delta whole)) (sym (kept_changes test rows))
      (subst (SameChanges (selected_delta test (unnumbered rows))) (sym is)
      (selected_same test (unnumbered rows) (delta inner) (of_expr input rows inner t right))))

  pub of_selection : (rows : List SignedRow) (number input : ℕ) (test : SignedRow → Bool) → SelectsFrom run.files number input test → AreRight run input rows → AreRight run number (filter test rows)
  of_selection rows number input _ (equal_from inner slot constant s t) right =
      select_right number input (has_atom slot constant) (EqSel inner slot constant) inner s t (delta_equal _ _ _ inner slot constant) rows right
  of_selection rows number input _ (range_from inner slot interval s t) right =
      select_right number input (is_within slot interval) (RangeSel inner slot interval) inner s t (delta_range _ _ _ inner slot interval) rows right

  module _ (news : ℕ → List SignedRow) (stamped : (number : ℕ) → AllByRecursion (λ r. r.number ≡ run.store.changes + 1) (news number)) where
    -- the content of a file before the change, and that after it
    pub content_was : (number : ℕ) (expr : Expr) (s : Stands run.files expr number) → IsContent run.store.changes s.file.content.rows (rows_in expr (world_in run.store))
    content_was number expr s = subst (λ x. IsContent run.store.changes s.file.content.rows (rows_in x (world_in run.store))) s.of (start.ready.fits number s.file s.at)

    pub content_is : (number : ℕ) (expr : Expr) (s : Stands run.files expr number) → AreRight run number (news number)
        → IsContent (run.store.changes + 1) (s.file.content.rows ++ news number) (rows_in expr (world_after run.store run.change))
    content_is number expr s right =
        content_after run.store.changes s.file.content.rows (news number) (rows_in expr (world_in run.store)) (rows_in expr (world_after run.store run.change)) (delta expr)
        (start.ready.up_to number s.file s.at).last (stamped number) (content_was number expr s) (of_expr number (news number) expr s right) (leads run.store run.change start.change expr)

    join_right : (number left right : ℕ) (j : JoinsFrom run.files number left right) → AreRight run left (news left) → AreRight run right (news right) → (rows : List SignedRow)
        → SameChanges (unnumbered rows) (join_delta j.pairs (unnumbered (news left)) (rows_in j.second (world_in run.store)) (rows_in j.first (world_after run.store run.change)) (unnumbered (news right))) → AreRight run number rows
    join_right number left right j on_left on_right rows gets =
        let before = rows_in j.second (world_in run.store) in
        let after = rows_in j.first (world_after run.store run.change) in
        at_expr number rows (Join j.first j.second j.pairs) j.stands
        (subst (SameChanges (unnumbered rows)) (sym (delta_join _ _ _ j.first j.second j.pairs))
        (both_same gets
        (join_delta_same j.pairs (unnumbered (news left)) (delta j.first) before before after after (unnumbered (news right)) (delta j.second)
        (of_expr left (news left) j.first j.on_left on_left) (λ f. refl) (λ f. refl) (of_expr right (news right) j.second j.on_right on_right))))

    pub of_join : (number left right : ℕ) → JoinsFrom run.files number left right → AreRight run left (news left) → AreRight run right (news right) → JoinGetsFrom run number (news left) (news right) (news number) → AreRight run number (news number)
    of_join number left right j on_left on_right gets =
        join_right number left right j on_left on_right (news number) (gets left right j (rows_in j.second (world_in run.store)) (rows_in j.first (world_after run.store run.change)) (content_was right j.second j.on_right) (content_is left j.first j.on_left on_left))

    module _ (pending : ℕ → Bool) (bound : ℕ) (done : IsPassedTo (wiring_of run) bound pending news) where
      -- each file to which the change was passed on has, by sign, the rows that it makes of its expression
      pub fed : (number : ℕ) (file : KeptFile) → get run.files number ≡ Some file → number < bound → AreRight run number (news number)
      fed number file at under =
          reached (wiring_of run) (selects_down run.files start.ready.grounded) (joins_down run.files start.ready.grounded) pending news (AreRight run) bound done
          (λ number scan gets. gets) (λ number input test selects right. of_selection (news input) number input test selects right) of_join (IsFile run.files) (kind run.files start.ready.grounded) number (file, at) under

    -- and the contents of the sides of a join whose turn it is are known
    pub known_sides : (files : Files) (pending : ℕ → Bool) (at : ℕ) → IsPassedTo (wiring_of run) at pending news → ((number : ℕ) → news number ≡ news_in run.store.changes files number) → AreKnown run at files
    known_sides files pending at done is left right j =
        let down = joins_down run.files start.ready.grounded at left right j in record {
          before = rows_in j.second (world_in run.store);
          after = rows_in j.first (world_after run.store run.change);
          content_before = content_was right j.second j.on_right;
          content_after = subst (λ xs. IsContent (run.store.changes + 1) (j.on_left.file.content.rows ++ xs) (rows_in j.first (world_after run.store run.change))) (is left)
              (content_is left j.first j.on_left (fed pending at done left j.on_left.file j.on_left.at down.0));
          wide_before = rows_are_wide (world_in run.store) j.second;
          wide_after = rows_are_wide (world_after run.store run.change) j.first;
          none = sym (is at) ∙ done.unjoined at left right j (omega arith);
          right_rows = λ rows same.
              join_right at left right j (fed pending at done left j.on_left.file j.on_left.at down.0) (fed pending at done right j.on_right.file j.on_right.at down.1) rows
              (subst (λ (p : List SignedRow × List SignedRow). SameChanges (unnumbered rows) (join_delta j.pairs (unnumbered p.0) (rows_in j.second (world_in run.store)) (rows_in j.first (world_after run.store run.change)) (unnumbered p.1)))
              (λ i. (sym (is left) i, sym (is right) i))
              (same_delta j.pairs (news_in run.store.changes files left) (news_in run.store.changes files right) rows (rows_in j.second (world_in run.store)) (rows_in j.first (world_after run.store run.change)) same));
        }
