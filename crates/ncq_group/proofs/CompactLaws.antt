-- A table one of whose files has another base.
use Rattle.std.proofs.Common.{◌≡◌, ℕ, ◌≤◌, true, false, cond, List, [], ◌∷◌, ◌++◌, map, filter, length, Some, ◌⊎◌, inl, inr, refl, sym, ap, ◌∙◌, subst, arith}
use Rattle.std.specs.Prelude.{nat_lt}
use Rattle.std.specs.List.{AllByRecursion}
use Rattle.std.specs.FinMap.{get, insert}
use Rattle.ncq_base.specs.declared.interval.Interval.{Interval}
use Rattle.ncq_plan.specs.declared.expr.Expr.{Expr}
use Rattle.ncq_plan.specs.declared.expr.Expr.TheVariants.{RangeSel, rolls-RangeSel}
use Rattle.ncq_plan.specs.declared.expr.Expr.TheViews.{out-Expr, roll-Expr, out-roll-Expr, roll-out-Expr}
use Rattle.ncq_plan.specs.declared.expr.Expr.TheOpen.{Expr-F}
use Rattle.ncq_plan.specs.declared.expr.Expr.TheOpen.Expr-F.{Scan as ScanLayer, EqSel as EqualLayer, RangeSel as RangeLayer, Join as JoinLayer}
use Rattle.ncq_plan.specs.Exprs.{expr_width}
use Rattle.ncq_row.specs.Embeddings.{Row}
use Rattle.ncq_midfile.specs.Content.{gains, losses, rows_of, up_to}
use Rattle.ncq_midfile.specs.Files.{AreLeftAt, IsThere}
use Rattle.ncq_midfile.specs.declared.signed.SignedRow.{SignedRow}
use Rattle.ncq_fill.proofs.FileLaws.{wide_same}
use Rattle.ncq_shelf.specs.KeptFiles.{KeptFile, Files}
use Rattle.ncq_shelf.specs.Contents.{IsUpTo, IsWide, IsCompacted, IsRaised}
use Rattle.ncq_shelf.specs.Ranges.{IsRange}
use Rattle.ncq_shelf.proofs.CallerLemmas.{all_map, all_part, all_parts}
use Rattle.ncq_group.specs.Tables.{TableState, Facts}
use Rattle.ncq_group.proofs.SameTable.{facts_put, wide_up_to}

gains_wide : (width : ℕ) (rows : List SignedRow) → AllByRecursion (λ r. length r.row ≡ width) rows → AllByRecursion (λ row. length row ≡ width) (gains rows)
gains_wide width [] all = tt
gains_wide width (r ∷ rows) all = by_test r.plus (gains_wide width rows all.1)
  where
    by_test : (b : _) → AllByRecursion (λ row. length row ≡ width) (gains rows) → AllByRecursion (λ row. length row ≡ width) (map (λ s. s.row) (cond b (r ∷ filter (λ s. s.plus) rows) (filter (λ s. s.plus) rows)))
    by_test true rest = (all.0, rest)
    by_test false rest = rest

front_wide : (width : ℕ) (rows more : List Row) → AllByRecursion (λ row. length row ≡ width) (rows ++ more) → AllByRecursion (λ row. length row ≡ width) rows
front_wide width [] more all = tt
front_wide width (row ∷ rows) more all = (all.0, front_wide width rows more all.1)

-- rows are as wide as what they are rows of
rows_wide : (width : ℕ) (rows : List SignedRow) → AllByRecursion (λ row. length row ≡ width) (rows_of rows) → AllByRecursion (λ r. length r.row ≡ width) rows
rows_wide width [] all = tt
rows_wide width (r ∷ rows) all = (all.0, rows_wide width rows all.1)

-- an expression selects by an interval, or it doesn't
range_layer : (inner : Expr) (slot : ℕ) (interval : Interval) → out-Expr (RangeSel inner slot interval) ≡ RangeLayer inner slot interval
range_layer inner slot interval = ap out-Expr (sym (rolls-RangeSel inner slot interval)) ∙ out-roll-Expr (RangeLayer inner slot interval)

is_range : (expr : Expr) → IsRange expr ⊎ (IsRange expr → ⊥)
is_range expr = by (out-Expr expr) refl
  where
    by : (layer : Expr-F Expr) → out-Expr expr ≡ layer → IsRange expr ⊎ (IsRange expr → ⊥)
    by (ScanLayer source shape) e = inr (λ r. let same : ScanLayer source shape ≡ RangeLayer r.inner r.slot r.interval = sym e ∙ ap out-Expr r.is ∙ range_layer r.inner r.slot r.interval in cc)
    by (EqualLayer input slot constant) e = inr (λ r. let same : EqualLayer input slot constant ≡ RangeLayer r.inner r.slot r.interval = sym e ∙ ap out-Expr r.is ∙ range_layer r.inner r.slot r.interval in cc)
    by (RangeLayer inner slot interval) e = inl (record { inner = inner; slot = slot; interval = interval; is = sym (roll-out-Expr expr) ∙ ap roll-Expr e ∙ rolls-RangeSel inner slot interval })
    by (JoinLayer left right pairs) e = inr (λ r. let same : JoinLayer left right pairs ≡ RangeLayer r.inner r.slot r.interval = sym e ∙ ap out-Expr r.is ∙ range_layer r.inner r.slot r.interval in cc)

-- a file that has rows of its own: what holds of those that are left and of all old ones holds of all
module _ (change now : ℕ) (old new : KeptFile) (is : IsCompacted change old new) (left : AreLeftAt change old.content.rows new.content.rows) where
  own_all : (P : SignedRow → Type 0) → AllByRecursion P (up_to change new.content.rows) → AllByRecursion P old.content.rows → AllByRecursion P new.content.rows
  own_all P first all =
      all_parts P change new.content.rows first (subst (AllByRecursion P) (sym left.later) (all_part P (λ r. nat_lt change r.number) old.content.rows all))

  own_wide : IsWide old → IsWide new
  own_wide wide =
      let width = expr_width old.expr in
      let list = rows_of (up_to change new.content.rows) in
      let all = wide_same width (list ++ losses (up_to change old.content.rows)) (gains (up_to change old.content.rows)) left.content (gains_wide width (up_to change old.content.rows) (wide_up_to change width old.content.rows wide)) in
      let first = rows_wide width (up_to change new.content.rows) (front_wide width list (losses (up_to change old.content.rows)) all) in
      subst (λ e. AllByRecursion (λ r. length r.row ≡ expr_width e) new.content.rows) (sym is.expr) (own_all (λ r. length r.row ≡ width) first wide)

  own_last : change ≤ now → IsUpTo now old.content → IsUpTo now new.content
  own_last less up = record {
    base = let b = is.base in omega arith;
    last = own_all (λ r. r.number ≤ now) (all_map (IsThere change) (λ r. r.number ≤ now) (λ r there. let a = there.0 in omega arith) (up_to change new.content.rows) left.there) up.last;
  }

-- any file: one that selects by an interval keeps its rows
module _ (change now : ℕ) (old new : KeptFile) (is : IsCompacted change old new) (left : (IsRange old.expr → ⊥) → AreLeftAt change old.content.rows new.content.rows) (same : IsRange old.expr → new.content.rows ≡ old.content.rows) where
  compact_wide : IsWide old → IsWide new
  compact_wide wide = elim (is_range old.expr) [
    | inl range ↦ subst (λ e. AllByRecursion (λ r. length r.row ≡ expr_width e) new.content.rows) (sym is.expr) (subst (λ rows. AllByRecursion (λ (r : SignedRow). length r.row ≡ expr_width old.expr) rows) (sym (same range)) wide)
    | inr own ↦ own_wide change now old new is (left own) wide
  ]

  compact_last : change ≤ now → IsUpTo now old.content → IsUpTo now new.content
  compact_last less up = elim (is_range old.expr) [
    | inl range ↦ record {
      base = let b = is.base in omega arith;
      last = subst (λ rows. AllByRecursion (λ (r : SignedRow). r.number ≤ now) rows) (sym (same range)) up.last;
    }
    | inr own ↦ own_last change now old new is (left own) less up
  ]

module _ (table : TableState) (facts : Facts table) (number change : ℕ) (old next : KeptFile) (at : get table.files number ≡ Some old) (is : IsCompacted change old next)
    (left : (IsRange old.expr → ⊥) → AreLeftAt change old.content.rows next.content.rows) (kept : IsRange old.expr → next.content.rows ≡ old.content.rows) (less : change ≤ table.number)
    (new : Files) (put : new ≡ insert table.files number next) where
  pub facts_compacted : Facts (record { files = new; next_file = table.next_file; number = table.number })
  facts_compacted =
      facts_put table facts number old next at is.expr is.uses (compact_wide change table.number old next is left kept (facts.wide number old at))
      (compact_last change table.number old next is left kept less (facts.up_to number old at)) new put

-- a file whose base was raised
raised_wide : (change : ℕ) (old next : KeptFile) → IsRaised change old next → IsWide old → IsWide next
raised_wide change old next is wide =
    subst (λ e. AllByRecursion (λ r. length r.row ≡ expr_width e) next.content.rows) (sym is.expr) (subst (λ rows. AllByRecursion (λ (r : SignedRow). length r.row ≡ expr_width old.expr) rows) (sym is.rows) wide)

raised_last : (change now : ℕ) (old next : KeptFile) → IsRaised change old next → change ≤ now → IsUpTo now old.content → IsUpTo now next.content
raised_last change now old next is less up = record {
  base = let b = up.base in elim is.base [ inl same ↦ omega arith | inr there ↦ omega arith ];
  last = subst (λ rows. AllByRecursion (λ (r : SignedRow). r.number ≤ now) rows) (sym is.rows) up.last;
}

module _ (table : TableState) (facts : Facts table) (number change : ℕ) (old next : KeptFile) (at : get table.files number ≡ Some old) (is : IsRaised change old next) (less : change ≤ table.number) (new : Files) (put : new ≡ insert table.files number next) where
  pub facts_raised : Facts (record { files = new; next_file = table.next_file; number = table.number })
  facts_raised = facts_put table facts number old next at is.expr is.uses (raised_wide change old next is (facts.wide number old at)) (raised_last change table.number old next is less (facts.up_to number old at)) new put
