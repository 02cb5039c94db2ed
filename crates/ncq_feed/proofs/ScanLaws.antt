-- What a change makes of a scan.
use Rattle.std.proofs.Common.{◌≡◌, ℕ, ◌+◌, Bool, true, false, ◌||◌, nat_eq, List, [], ◌∷◌, ◌++◌, length, Some, None, Option, inl, inr, refl, sym, ap, ◌∙◌, subst, arith, true≢false}
use Rattle.std.specs.List.{AllByRecursion}
use Rattle.std.proofs.lemmas.Bool.{eq-eqb, eqb-true, or_cases, or_parts}
use Rattle.ncq_tree.specs.declared.model.Element.{Element}
use Rattle.ncq_row.specs.declared.shape.Shape.{Shape}
use Rattle.ncq_row.specs.Embeddings.{Row}
use Rattle.ncq_row.specs.Formed.{shape_is_formed}
use Rattle.ncq_row.specs.Widths.{width}
use Rattle.ncq_row.proofs.CallerLemmas.{rows_have_width}
use Rattle.ncq_plan.specs.declared.expr.Expr.{Expr}
use Rattle.ncq_plan.specs.declared.expr.Expr.TheVariants.{Scan}
use Rattle.ncq_plan.specs.Exprs.{expr_width}
use Rattle.ncq_plan.specs.Deltas.{signed}
use Rattle.ncq_plan.specs.Totals.{SignedRow as PlainRow, SameChanges}
use Rattle.ncq_plan.specs.WellFormed.{IsWellFormedExpr, paths_step, paths_are_formed}
use Rattle.ncq_plan.proofs.ExprCases.{fold_scan}
use Rattle.ncq_plan.proofs.CallerLemmas.{delta_scan, width_scan}
use Rattle.ncq_source.specs.declared.change.Entry.{Entry}
use Rattle.ncq_change.specs.Entries.{element_rows, entry_delta, scan_delta}
use Rattle.ncq_change.specs.Stores.{entries_in}
use Rattle.ncq_midfile.specs.declared.signed.SignedRow.{SignedRow}
use Rattle.ncq_delta.specs.Leads.{unnumbered}
use Rattle.ncq_shelf.specs.KeptFiles.{KeptFile, Files}
use Rattle.ncq_shelf.specs.Stands.{Stands}
use Rattle.ncq_shelf.specs.Readers.{IsScanOf}
use Rattle.ncq_shelf.proofs.CallerLemmas.{one_value}
use Rattle.ncq_feed.specs.Feeds.{delta_by}
use Rattle.ncq_feed.specs.Runs.{Run, IsUnderWay, IsFor, IsGiven, AreRight, IsScanFile, is_among, news_in, due}
use Rattle.ncq_feed.specs.ScanFeeds.{IsScanFed, numbered}
use Rattle.ncq_feed.proofs.CountLaws.{right_count}
use Rattle.ncq_feed.proofs.GrowthLaws.{all_append, stands_up}

-- the paths of a scan's shape are well formed where the scan is
pub scan_formed : (source : List ℕ) (shape : Shape) (expr : Expr) → expr ≡ Scan source shape → IsWellFormedExpr expr → shape_is_formed shape ≡ true
scan_formed source shape expr is formed = sym (ap paths_are_formed is ∙ fold_scan paths_step source shape) ∙ formed.paths

plain : (n : ℕ) (rows : List PlainRow) → unnumbered (numbered n rows) ≡ rows
plain n [] = refl
plain n (r ∷ rows) = ap (λ rs. r ∷ rs) (plain n rows)

-- the rows of entries have the width of the shape

abbrev Wide : ℕ → List PlainRow → Type 0
Wide n rows = AllByRecursion (λ r. length r.row ≡ n) rows

signed_wide : (n : ℕ) (plus : Bool) (rows : List Row) → AllByRecursion (λ row. length row ≡ n) rows → Wide n (signed plus rows)
signed_wide n plus [] h = tt
signed_wide n plus (row ∷ rows) h = (h.0, signed_wide n plus rows h.1)

element_wide : (shape : Shape) (element : Option Element) → AllByRecursion (λ row. length row ≡ width shape) (element_rows shape element)
element_wide shape None = tt
element_wide shape (Some element) = rows_have_width shape element

scan_wide : (shape : Shape) (entries : List Entry) → Wide (width shape) (scan_delta shape entries)
scan_wide shape [] = tt
scan_wide shape (entry ∷ entries) =
    all_append (λ (r : PlainRow). length r.row ≡ width shape) (entry_delta shape entry) (scan_delta shape entries)
    (all_append (λ (r : PlainRow). length r.row ≡ width shape) (signed false (element_rows shape entry.before)) (signed true (element_rows shape entry.after))
    (signed_wide (width shape) false (element_rows shape entry.before) (element_wide shape entry.before)) (signed_wide (width shape) true (element_rows shape entry.after) (element_wide shape entry.after)))
    (scan_wide shape entries)

-- the rows of the change that a scan is to get
abbrev pub wanted : Run → List ℕ → Shape → List SignedRow
wanted run name shape = numbered (run.store.changes + 1) (scan_delta shape (entries_in run.store run.change name))

module _ (run : Run) (at : ℕ) (name : List ℕ) (scan : IsScanOf run.files name at) where
  own_delta : delta_by run.store run.change (Scan name scan.shape) ≡ scan_delta scan.shape (entries_in run.store run.change name)
  own_delta = delta_scan _ _ _ name scan.shape

  pub own_right : AreRight run at (wanted run name scan.shape)
  own_right file here =
      subst (λ e. SameChanges (unnumbered (wanted run name scan.shape)) (delta_by run.store run.change e)) (sym scan.stands.of ∙ ap (λ (f : KeptFile). f.expr) (one_value scan.stands.at here))
      (subst (SameChanges (unnumbered (wanted run name scan.shape))) (sym own_delta)
      (subst (λ rows. SameChanges (unnumbered (wanted run name scan.shape)) rows) (plain (run.store.changes + 1) (scan_delta scan.shape (entries_in run.store run.change name))) (record { plus = λ f. refl; minus = λ f. refl })))

  fit_all : (rows : List PlainRow) → Wide (width scan.shape) rows → AllByRecursion (IsFor run at) (numbered (run.store.changes + 1) rows)
  fit_all [] h = tt
  fit_all (r ∷ rows) h = (
    record {
      stamped = refl;
      wide = λ file here. h.0 ∙ sym (width_scan name scan.shape) ∙ ap expr_width (sym scan.stands.of) ∙ ap (λ (f : KeptFile). expr_width f.expr) (one_value scan.stands.at here);
    },
    fit_all rows h.1,
  )

  pub own_fit : AllByRecursion (IsFor run at) (wanted run name scan.shape)
  own_fit = fit_all (scan_delta scan.shape (entries_in run.store run.change name)) (scan_wide scan.shape (entries_in run.store run.change name))

  module _ (keys : List ℕ) (files : Files) (still : news_in run.store.changes files at ≡ []) where
    -- a scan that gets nothing
    pub scan_none : wanted run name scan.shape ≡ [] → IsScanFed run at keys keys files files
    scan_none none = record {
      own = subst (AreRight run at) (none ∙ sym still) own_right;
      others = λ other differs. refl;
      quiet = λ other idle. (idle, λ e. still);
      noted = λ other is. inl is;
    }

    -- a scan that gets its rows, and is pending
    pub scan_given : (new : Files) (keys' : List ℕ) → IsGiven run at (wanted run name scan.shape) files new → ((other : ℕ) → is_among other keys' ≡ (nat_eq other at || is_among other keys)) → IsScanFed run at keys keys' files new
    scan_given new keys' given noted = record {
      own = subst (AreRight run at) (sym (given.own ∙ ap (λ xs. xs ++ wanted run name scan.shape) still)) own_right;
      others = given.others;
      quiet = λ other idle.
          let n = or_parts (nat_eq other at) (is_among other keys) (sym (noted other) ∙ idle) in
          (n.1, λ e. absurd (true≢false (sym (eq-eqb other at e) ∙ n.0)));
      noted = λ other is. elim (or_cases (nat_eq other at) (is_among other keys) (sym (noted other) ∙ is)) [
        | inl e ↦ inr (eqb-true other at e)
        | inr was ↦ inl was
      ];
    }

module _ (run : Run) (files : Files) (under : IsUnderWay run files) (at : ℕ) (name : List ℕ) (scan : IsScanOf run.files name at) where
  pub scan_file : IsScanFile files at
  scan_file = record { source = name; shape = scan.shape; stands = stands_up run files under _ at scan.stands }

  -- what was made of the entries is what the scan is to get
  pub wanted_is : (now : ℕ) → now ≡ run.store.changes → (entries : List Entry) → entries ≡ entries_in run.store run.change name → (shape : Shape) → ((source : List ℕ) (other : Shape) → Stands files (Scan source other) at → shape ≡ other)
      → (rows : List SignedRow) → rows ≡ numbered (now + 1) (scan_delta shape entries) → rows ≡ wanted run name scan.shape
  wanted_is now n entries e shape s rows r = r ∙ (λ i. numbered (n i + 1) (scan_delta (s name scan.shape (stands_up run files under _ at scan.stands) i) (e i)))

pub no_rows : {A : Type 0} (rows : List A) → length rows ≡ 0 → rows ≡ []
no_rows [] e = refl
no_rows (r ∷ rows) e = absurd (omega arith)

-- what a scan costs

numbered_length : (n : ℕ) (rows : List PlainRow) → length (numbered n rows) ≡ length rows
numbered_length n [] = refl
numbered_length n (r ∷ rows) = let e = numbered_length n rows in omega arith

module _ (run : Run) (files : Files) (under : IsUnderWay run files) (at : ℕ) (name : List ℕ) (scan : IsScanOf run.files name at) where
  -- as many rows as are made of the entries are due
  pub scan_due : (entries : List Entry) → entries ≡ entries_in run.store run.change name → (shape : Shape) → ((source : List ℕ) (other : Shape) → Stands files (Scan source other) at → shape ≡ other)
      → length (scan_delta shape entries) ≡ due run at
  scan_due entries e shape s =
      (λ i. length (scan_delta (s name scan.shape (stands_up run files under _ at scan.stands) i) (e i)))
      ∙ sym (numbered_length (run.store.changes + 1) (scan_delta scan.shape (entries_in run.store run.change name)))
      ∙ right_count run at scan.stands.file scan.stands.at (wanted run name scan.shape) (own_right run at name scan)
