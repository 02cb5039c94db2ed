-- What a change makes of the files of a shelf.
use Rattle.std.specs.Prelude.{◌≡◌, ℕ, ◌+◌, false, List, [], length, slice_get, Option, Some, None}
use Rattle.std.specs.Prelude.{nat_eq, zero, suc, Bool, true, cond, ◌∷◌}
use Rattle.std.specs.List.{AllByRecursion, list_any}
use Rattle.std.specs.FinMap.{get, entries}
use Rattle.ncq_base.specs.Counts.{total_by}
use Rattle.ncq_source.specs.Stores.{Source}
use Rattle.ncq_source.specs.Changes.{Chains}
use Rattle.ncq_source.specs.Changes as changes
use Rattle.ncq_source.specs.ChangeStates.{AreRising}
use Rattle.ncq_source.specs.StoreStates.{StoreState, found}
use Rattle.ncq_source.specs.declared.change.Portion.{Portion}
use Rattle.ncq_source.specs.declared.change.SourceId.{SourceId}
use Rattle.ncq_plan.specs.declared.expr.Expr.{Expr}
use Rattle.ncq_plan.specs.declared.expr.Expr.TheOpen.{Expr-F}
use Rattle.ncq_plan.specs.declared.expr.Expr.TheOpen.Expr-F.{Scan, EqSel, RangeSel, Join}
use Rattle.ncq_plan.specs.declared.expr.Expr.TheViews.{out-Expr}
use Rattle.ncq_plan.specs.Exprs.{World, expr_width}
use Rattle.ncq_plan.specs.Deltas.{delta_of}
use Rattle.ncq_plan.specs.Totals.{SameChanges}
use Rattle.ncq_plan.specs.Totals.{SignedRow as PlainRow}
use Rattle.ncq_change.specs.Entries.{scans_of, world_of}
use Rattle.ncq_change.specs.Stores.{entries_in, kept_in, world_in}
use Rattle.ncq_midfile.specs.declared.signed.SignedRow.{SignedRow}
use Rattle.ncq_midfile.specs.Content.{since}
use Rattle.ncq_delta.specs.Leads.{unnumbered}
use Rattle.ncq_shelf.specs.KeptFiles.{EachFile, Files, KeptFile}
use Rattle.ncq_shelf.specs.Stands.{IsGrounded}
use Rattle.ncq_shelf.specs.Contents.{AreFormed, AreWide, AreUpTo, Fits, with_more}
use Rattle.ncq_shelf.specs.Ranges.{IsHeldBy}

-- the name of a source, where there is one
abbrev pub name_in : Option Source → List ℕ
name_in None = []
name_in (Some source) = source.name

-- the name of the source at this place
abbrev pub name_at : StoreState → SourceId → List ℕ
name_at store id = name_in (slice_get store.sources id.0)

-- each source of the change is found by its name
abbrev pub IsNamed : StoreState → Portion → Type 0
IsNamed store portion = found store (name_at store portion.source) ≡ Some portion.source.0

-- the sources of the change rise, each is found by its name, and the entries say what their keys
-- held
pub record IsPreparedFrom (store : StoreState) (change : List Portion) : Type 0 where
  pub rising : AreRising change
  pub named : AllByRecursion (IsNamed store) change
  pub chains : (name : List ℕ) → Chains (kept_in store name) (entries_in store change name)

-- the elements of each source after the change
abbrev pub world_after : StoreState → List Portion → World
world_after store change =
    world_of (λ name. changes.after (kept_in store name) (entries_in store change name))

-- the signed rows that the change makes of an expression
abbrev pub delta_by : StoreState → List Portion → Expr → List PlainRow
delta_by store change expr =
    delta_of (world_in store) (world_after store change) (scans_of (entries_in store change)) expr

-- the files stand for the sources at a change: each has the rows of its expression over the world,
-- and none of a later change
pub record AreReady (now : ℕ) (world : World) (files : Files) : Type 0 where
  pub grounded : IsGrounded files
  pub formed : AreFormed files
  pub wide : AreWide files
  pub up_to : AreUpTo now files
  pub fits : Fits now world files

-- the file has behind its rows, under the number of the change, the signed rows of its expression,
-- each as often with each sign
pub record IsFedFile (number : ℕ) (delta : List PlainRow) (old new : KeptFile) : Type 0 where
  pub news : List SignedRow
  pub behind : new ≡ with_more old news
  pub numbers : AllByRecursion (λ r. r.number ≡ number) news
  pub rows : SameChanges (unnumbered news) delta

-- each file has the signed rows that the change makes of its expression, and no file came or went
pub record AreFed (store : StoreState) (change : List Portion) (old new : Files) : Type 0 where
  pub each : EachFile old (λ number file. (fed : KeptFile) × (get new number ≡ Some fed)
      × IsFedFile (store.changes + 1) (delta_by store change file.expr) file fed)
  pub no_other : (number : ℕ) → get old number ≡ None → get new number ≡ None

-- the list has the number of each file that has rows of a later change than this
abbrev pub NamesTheFed : ℕ → Files → List ℕ → Type 0
NamesTheFed now files numbers =
    EachFile files (λ number file.
    list_any (nat_eq number) numbers ≡ false → since now file.content.rows ≡ [])

-- the signed rows that the change makes of the expressions of all files, together
abbrev pub feed_work : StoreState → List Portion → Files → ℕ
feed_work store change files =
    total_by (λ entry. length (delta_by store change entry.1.expr)) (entries files)

-- whether an expression selects by an interval
abbrev pub is_range_layer : Expr-F Expr → Bool
is_range_layer (Scan source shape) = false
is_range_layer (EqSel input slot constant) = false
is_range_layer (RangeSel input slot interval) = true
is_range_layer (Join left right pairs) = false

abbrev pub is_range : Expr → Bool
is_range expr = is_range_layer (out-Expr expr)

-- the signed rows that the change makes of the expressions of all files but the selections by
-- intervals, together
abbrev pub plain_work : StoreState → List Portion → Files → ℕ
plain_work store change files =
    total_by (λ entry. cond (is_range entry.1.expr) 0 (length (delta_by store change entry.1.expr)))
    (entries files)

-- so many of the signed rows some selection by an interval of the slot of the input takes: a row
-- counts once, however many selections take it
pub data CountsTaken (files : Files) (input slot : ℕ) : List PlainRow → ℕ → Type 0 where
  none : CountsTaken files input slot [] 0
  taken : {row : PlainRow} {rows : List PlainRow} {count : ℕ} → IsHeldBy files input slot row.row
      → CountsTaken files input slot rows count
      → CountsTaken files input slot (row ∷ rows) (suc count)
  left : {row : PlainRow} {rows : List PlainRow} {count : ℕ}
      → (IsHeldBy files input slot row.row → ⊥)
      → CountsTaken files input slot rows count
      → CountsTaken files input slot (row ∷ rows) count

-- for each file and slot: how many of the signed rows that the change makes of the file's
-- expression some selection by an interval of the slot takes
abbrev pub CountsHeld : StoreState → List Portion → Files → (ℕ → ℕ → ℕ) → Type 0
CountsHeld store change files held =
    EachFile files (λ number file. (slot : ℕ)
    → CountsTaken files number slot (delta_by store change file.expr) (held number slot))

-- the counts of the slots below one, together
abbrev pub sum_below : ℕ → (ℕ → ℕ) → ℕ
sum_below zero counts = 0
sum_below (suc slot) counts = sum_below slot counts + counts slot

-- the counts of all slots of all files, together
abbrev pub held_work : Files → (ℕ → ℕ → ℕ) → ℕ
held_work files held =
    total_by (λ entry. sum_below (expr_width entry.1.expr) (held entry.0)) (entries files)
