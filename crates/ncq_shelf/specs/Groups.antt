-- The files of range groups, and what a file shows of them. Only the crate's private clauses cite
-- it.
use Rattle.std.specs.Prelude.{◌≡◌, ℕ, ◌≤◌, ◌++◌, List, [], ◌∷◌}
use Rattle.std.specs.Prelude.{nat_eq, Bool, Option, Some, None, true, false}
use Rattle.std.specs.List.{AllByRecursion}
use Rattle.std.specs.Map.{lookup, keys_of}
use Rattle.std.specs.Option.{option_map_or}
use Rattle.ncq_base.specs.declared.interval.Interval.{Interval}
use Rattle.ncq_row.specs.Embeddings.{Row}
use Rattle.ncq_plan.specs.declared.expr.Expr.{Expr}
use Rattle.ncq_plan.specs.declared.expr.Expr.TheOpen.{Expr-F}
use Rattle.ncq_plan.specs.declared.expr.Expr.TheOpen.Expr-F.{Scan as ScanLayer}
use Rattle.ncq_plan.specs.declared.expr.Expr.TheOpen.Expr-F.{EqSel as EqualLayer}
use Rattle.ncq_plan.specs.declared.expr.Expr.TheOpen.Expr-F.{RangeSel as RangeLayer}
use Rattle.ncq_plan.specs.declared.expr.Expr.TheOpen.Expr-F.{Join as JoinLayer}
use Rattle.ncq_plan.specs.declared.expr.Expr.TheVariants.{RangeSel}
use Rattle.ncq_plan.specs.declared.expr.Expr.TheViews.{out-Expr}
use Rattle.ncq_plan.specs.Meets.{is_within}
use Rattle.ncq_midfile.specs.Content.{IsContent}
use Rattle.ncq_midfile.specs.Files.{AreLeftAt, FileState}
use Rattle.ncq_midfile.specs.Views.{RangeState, AreHeld, of_rows, is_held, is_missing}
use Rattle.ncq_midfile.specs.declared.signed.SignedRow.{SignedRow}
use Rattle.ncq_readers.specs.ReaderTables.{ReaderTables}
use Rattle.ncq_shelf.specs.Ranges.{IsRange}
use Rattle.ncq_shelf.specs.declared.file.File.{File}
use Rattle.ncq_shelf.specs.declared.group.Group.{Group}
use Rattle.ncq_shelf.specs.declared.inputs.Inputs.TheVariants.{One}
use Rattle.ncq_shelf.specs.declared.rows.Rows.{Rows}
use Rattle.ncq_shelf.specs.declared.rows.Rows.TheVariants.{Whole, Ranged}
use Rattle.ncq_shelf.specs.contracts.group.GroupPartialEq.TheImpl.{ghosts as group_eq}

-- the files of range groups, each under its input's number and its slot
abbrev pub Groups : Type 0
Groups = List (Group × RangeState)

-- whether the two are one group
abbrev pub is_group : Group → Group → Bool
is_group = group_eq.eq

-- the signed rows of the group's file
abbrev pub rows_of_group : Groups → Group → List SignedRow
rows_of_group groups group =
    option_map_or (λ held. held.rows) (lookup (is_group group) groups) []

-- those of the rows that a selection by an interval takes; what is no such selection takes none
abbrev pub picked : Expr-F Expr → List SignedRow → List SignedRow
picked (ScanLayer source shape) rows = []
picked (EqualLayer of slot constant) rows = []
picked (RangeLayer of slot interval) rows = of_rows (is_within slot interval) rows
picked (JoinLayer left right pairs) rows = []

-- what a file of the expression shows: its own rows, or those of its group that it takes
abbrev pub content_of : Groups → Expr → Rows → FileState
content_of groups expr (Whole file) = file
content_of groups expr (Ranged group base) =
    record { base = base; rows = picked (out-Expr expr) (rows_of_group groups group) }

-- the expression selects by an interval of the group's slot, and the group has a file of that slot
pub record IsVirtual (groups : Groups) (expr : Expr) (group : Group) : Type 0 where
  pub inner : Expr
  pub interval : Interval
  pub is : expr ≡ RangeSel inner group.slot interval
  pub held : RangeState
  pub at : lookup (is_group group) groups ≡ Some held
  pub slot : held.slot ≡ group.slot

-- the group of a virtual file
abbrev pub group_of : Rows → Option Group
group_of (Whole file) = None
group_of (Ranged group base) = Some group

-- selections by intervals are virtual files, and no others are
abbrev pub IsRightFor : Groups → Expr → Option Group → Type 0
IsRightFor groups expr None = IsRange expr → ⊥
IsRightFor groups expr (Some group) = IsVirtual groups expr group

abbrev pub IsRight : Groups → Expr → Rows → Type 0
IsRight groups expr rows = IsRightFor groups expr (group_of rows)

-- some virtual file of the group takes the row
pub record IsTaken (files : List (ℕ × File)) (group : Group) (row : Row) : Type 0 where
  pub number : ℕ
  pub file : File
  pub inner : Expr
  pub interval : Interval
  pub at : lookup (nat_eq number) files ≡ Some file
  pub of : group_of file.content ≡ Some group
  pub is : file.expr ≡ RangeSel inner group.slot interval
  pub within : is_within group.slot interval row ≡ true

-- each file is what its expression asks for, a virtual one is over the input of its group, the file
-- of a group is of its slot, and each row of a group is taken by one of its files
pub record IsGrouped (files : List (ℕ × File)) (groups : Groups) : Type 0 where
  pub right : (number : ℕ) (file : File) → lookup (nat_eq number) files ≡ Some file
      → IsRight groups file.expr file.content
  pub over : (number : ℕ) (file : File) (group : Group)
      → lookup (nat_eq number) files ≡ Some file → group_of file.content ≡ Some group
      → file.inputs ≡ One group.input
  pub slots : (group : Group) (held : RangeState) → lookup (is_group group) groups ≡ Some held
      → held.slot ≡ group.slot
  pub taken : (group : Group) (held : RangeState) → lookup (is_group group) groups ≡ Some held
      → AllByRecursion (λ r. IsTaken files group r.row) held.rows

-- the rows up to the change are those left there, each there from the base on, and all above it
-- stay
pub record HasBase (change : ℕ) (old new : FileState) : Type 0 where
  pub base : new.base ≡ change
  pub left : AreLeftAt change old.rows new.rows
  pub stays : (at : ℕ) (list : List Row) → change ≤ at → IsContent at old.rows list
      → IsContent at new.rows list

-- the group has a file
pub record HasGroup (groups : Groups) (group : Group) : Type 0 where
  pub held : RangeState
  pub at : lookup (is_group group) groups ≡ Some held
  pub slot : held.slot ≡ group.slot

-- the group has a file, with the rows that it had, and all other groups are as before
pub record OpensGroup (old : Groups) (group : Group) (new : Groups) : Type 0 where
  pub there : HasGroup old group → new ≡ old
  pub here : lookup (is_group group) old ≡ None
      → lookup (is_group group) new ≡ Some (record { slot = group.slot; rows = [] })
  pub others : (other : Group) → is_group group other ≡ false
      → lookup (is_group other) new ≡ lookup (is_group other) old

-- the group's file has these rows behind its own, and all other groups are as before
pub record AddsToGroup (old : Groups) (group : Group) (rows : List SignedRow) (new : Groups)
    : Type 0 where
  pub here : (held : RangeState) → lookup (is_group group) old ≡ Some held
      → lookup (is_group group) new
      ≡ Some (record { slot = held.slot; rows = held.rows ++ rows })
  pub others : (other : Group) → is_group group other ≡ false
      → lookup (is_group other) new ≡ lookup (is_group other) old

-- no row of the second list has a number below one before it, of either list
abbrev pub AreBehind : List SignedRow → List SignedRow → Type 0
AreBehind rows [] = Unit {0}
AreBehind rows (row ∷ more) =
    AllByRecursion (λ r. r.number ≤ row.number) rows × AreBehind (rows ++ row ∷ []) more

-- the first list is a front of the second
pub record IsFrontOf (some all : List SignedRow) : Type 0 where
  pub rest : List SignedRow
  pub is : some ++ rest ≡ all

-- the intervals that read at the slot
abbrev pub intervals_in : ReaderTables → ℕ → List Interval
intervals_in readers slot = option_map_or keys_of (lookup (nat_eq slot) readers.ranges) []

-- the intervals that read the input of the group at its slot
abbrev pub intervals_at : List (ℕ × File) → Group → List Interval
intervals_at files group = option_map_or (λ file. intervals_in file.readers group.slot)
    (lookup (nat_eq group.input) files) []

-- where each row of the group was taken by the selection or by an interval at the group, those that
-- the latter have stay; where there is such an interval, the group has a file; all other groups are
-- as before
pub record IsReleased (files : List (ℕ × File)) (old : Groups) (group : Group) (gone : Expr)
    (new : Groups) : Type 0 where
  pub here : (inner : Expr) (interval : Interval) → gone ≡ RangeSel inner group.slot interval
      → AreHeld group.slot (interval ∷ intervals_at files group) (rows_of_group old group)
      → rows_of_group new group
      ≡ of_rows (is_held group.slot (intervals_at files group)) (rows_of_group old group)
  pub some : HasGroup old group → (interval : Interval) (more : List Interval)
      → intervals_at files group ≡ interval ∷ more → HasGroup new group
  pub slot : HasGroup old group → (held : RangeState)
      → lookup (is_group group) new ≡ Some held → held.slot ≡ group.slot
  pub others : (other : Group) → is_group group other ≡ false
      → lookup (is_group other) new ≡ lookup (is_group other) old

-- the expression selects by an interval of the group's slot that has each of the rows, and no
-- interval that reads at the group has any of them
pub record BringsRows (files : List (ℕ × File)) (group : Group) (expr : Expr)
    (rows : List SignedRow) : Type 0 where
  pub inner : Expr
  pub interval : Interval
  pub is : expr ≡ RangeSel inner group.slot interval
  pub missing : AllByRecursion
      (λ r. is_missing group.slot (intervals_at files group) interval r.row ≡ true) rows

-- the group has a file, with these rows behind those that it had; all other groups are as before
pub record GainsRows (old : Groups) (group : Group) (rows : List SignedRow) (new : Groups)
    : Type 0 where
  pub there : HasGroup new group
  pub here : rows_of_group new group ≡ rows_of_group old group ++ rows
  pub others : (other : Group) → is_group group other ≡ false
      → lookup (is_group other) new ≡ lookup (is_group other) old

-- the group has the rows that it had, and a file of its slot if it had one and an interval reads at
-- it; all other groups are as before
pub record KeepsRows (files : List (ℕ × File)) (old : Groups) (group : Group) (new : Groups)
    : Type 0 where
  pub here : rows_of_group new group ≡ rows_of_group old group
  pub some : HasGroup old group → (interval : Interval) (more : List Interval)
      → intervals_at files group ≡ interval ∷ more → HasGroup new group
  pub slot : (held : RangeState) → lookup (is_group group) new ≡ Some held → held.slot ≡ group.slot
  pub others : (other : Group) → is_group group other ≡ false
      → lookup (is_group other) new ≡ lookup (is_group other) old
