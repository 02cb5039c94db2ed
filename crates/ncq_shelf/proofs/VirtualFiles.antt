-- The selections by intervals of one slot of one file are the virtual files of one group.
use Rattle.std.proofs.Common.{◌≡◌, ℕ, List, [], Some, None, Option, nat_eq, refl, sym, ap, ◌∙◌, subst}
use Rattle.std.specs.Map.{lookup}
use Rattle.std.specs.Option.{option_map_or}
use Rattle.std.specs.FinMap.{get}
use Rattle.ncq_base.specs.declared.interval.Interval.{Interval}
use Rattle.ncq_row.specs.Embeddings.{Row}
use Rattle.ncq_plan.specs.declared.expr.Expr.{Expr}
use Rattle.ncq_plan.specs.declared.expr.Expr.TheOpen.Expr-F.{RangeSel as RangeLayer}
use Rattle.ncq_plan.specs.declared.expr.Expr.TheVariants.{RangeSel}
use Rattle.ncq_plan.specs.declared.expr.Expr.TheViews.{out-Expr}
use Rattle.ncq_plan.specs.Meets.{is_within}
use Rattle.ncq_midfile.specs.Views.{RangeState, of_rows}
use Rattle.ncq_midfile.specs.declared.signed.SignedRow.{SignedRow}
use Rattle.ncq_readers.specs.ReaderTables.{ReaderTables}
use Rattle.ncq_shelf.specs.KeptFiles.{KeptFile}
use Rattle.ncq_shelf.specs.Groups.{Groups, IsGrouped, IsRightFor, IsTaken, group_of, is_group, rows_of_group}
use Rattle.ncq_shelf.specs.Ranges.{IsHeldBy, IsRangeFile, SelectsRange}
use Rattle.ncq_shelf.specs.Inputs.{AreInputs}
use Rattle.ncq_shelf.specs.Parts.{IsInput}
use Rattle.ncq_shelf.specs.Stands.{Stands}
use Rattle.ncq_shelf.specs.Shown.{shown, state_of}
use Rattle.ncq_shelf.specs.Wired.{IsShelved}
use Rattle.ncq_shelf.specs.declared.file.File.{File}
use Rattle.ncq_shelf.specs.declared.group.Group.{Group}
use Rattle.ncq_shelf.specs.declared.inputs.Inputs.TheVariants.{One}
pub use Rattle.ncq_shelf.proofs.GroupGains.{group_is, group_itself}
use Rattle.ncq_shelf.proofs.Indexes.{shown_at, kept_at}
use Rattle.ncq_shelf.proofs.KeyLaws.{all_map}
use Rattle.ncq_shelf.proofs.Layers.{out-RangeSel, input_of-range}
use Rattle.ncq_shelf.proofs.Maps.{one_value, there}
use Rattle.ncq_shelf.proofs.Widths.{virtual_rows}

-- what selections by intervals are made of
module _ (inner outer : Expr) (s t : ℕ) (i j : Interval) (e : RangeSel inner s i ≡ RangeSel outer t j) where
  range_layers : RangeLayer inner s i ≡ RangeLayer outer t j
  range_layers = sym (out-RangeSel inner s i) ∙ ap out-Expr e ∙ out-RangeSel outer t j

  pub one_slot : s ≡ t
  one_slot = let l = range_layers in cc

  pub one_interval : i ≡ j
  one_interval = let l = range_layers in cc

-- the file of this number is a virtual one of the group, by this interval
pub record IsView (files : List (ℕ × File)) (group : Group) (interval : Interval) (number : ℕ) : Type 0 where
  pub file : File
  pub inner : Expr
  pub at : lookup (nat_eq number) files ≡ Some file
  pub of : group_of file.content ≡ Some group
  pub is : file.expr ≡ RangeSel inner group.slot interval

pub view_of_taken : (files : List (ℕ × File)) (group : Group) (row : Row) (t : IsTaken files group row) → IsView files group t.interval t.number
view_of_taken files group row t = record { file = t.file; inner = t.inner; at = t.at; of = t.of; is = t.is }

pub rows_there : (gs : Groups) (group : Group) (held : RangeState) → lookup (is_group group) gs ≡ Some held → rows_of_group gs group ≡ held.rows
rows_there gs group held at = ap (λ o. option_map_or (λ (h : RangeState). h.rows) o []) at

-- each file is what its expression asks for, and a virtual one is over the input of its group
module _ (gs : Groups) (files : List (ℕ × File)) (numbers : List (Expr × ℕ)) (scans : List (List ℕ × ReaderTables)) (shelved : IsShelved gs files numbers scans)
    (right : (n : ℕ) (file : File) → lookup (nat_eq n) files ≡ Some file → IsRightFor gs file.expr (group_of file.content))
    (over : (n : ℕ) (file : File) (group : Group) → lookup (nat_eq n) files ≡ Some file → group_of file.content ≡ Some group → file.inputs ≡ One group.input) where
  input_stands : (n : ℕ) (file : File) (group : Group) (inner : Expr) (slot : ℕ) (interval : Interval) → lookup (nat_eq n) files ≡ Some file → group_of file.content ≡ Some group → file.expr ≡ RangeSel inner slot interval
      → Stands (shown gs files) inner group.input
  input_stands n file group inner slot interval at of is =
      let a = subst (λ i. AreInputs (shown gs files) file.expr i) (over n file group at of) (shelved.indexed.inputs n file at) in
      subst (λ e. Stands (shown gs files) e group.input) (input_of-range a.input inner slot interval (subst (λ e. IsInput a.input e) is a.reads)) a.stands

  -- a virtual file selects from the input of its group
  pub view_selects : (group : Group) (interval : Interval) (n : ℕ) → IsView files group interval n → SelectsRange (shown gs files) group.input group.slot interval n
  view_selects group interval n v = record {
    inner = v.inner;
    stands = record { file = state_of gs v.file; at = shown_at gs files n v.file v.at; of = v.is };
    over = input_stands n v.file group v.inner group.slot interval v.at v.of v.is;
  }

  -- what selects by an interval is a virtual file of the group
  pub selects_view : (input slot : ℕ) (interval : Interval) (n : ℕ) → SelectsRange (shown gs files) input slot interval n → IsView files (record { input = input; slot = slot }) interval n
  selects_view input slot interval n s = by (group_of file.content) refl
    where
      k : (file : File) × (lookup (nat_eq n) files ≡ Some file) × (s.stands.file ≡ state_of gs file)
      k = kept_at gs files n s.stands.file s.stands.at

      file : File
      file = k.0

      is : file.expr ≡ RangeSel s.inner slot interval
      is = sym (ap (λ (f : KeptFile). f.expr) k.2) ∙ s.stands.of

      by : (o : Option Group) → group_of file.content ≡ o → IsView files (record { input = input; slot = slot }) interval n
      by None e = absurd (subst (λ o. IsRightFor gs file.expr o) e (right n file k.1) (record { inner = s.inner; slot = slot; interval = interval; is = is }))
      by (Some group) e =
          let v = subst (λ o. IsRightFor gs file.expr o) e (right n file k.1) in
          let same_slot : group.slot ≡ slot = one_slot v.inner s.inner group.slot slot v.interval interval (sym v.is ∙ is) in
          let on = input_stands n file group s.inner slot interval k.1 e is in
          let same_input : group.input ≡ input = one_value ((shelved.indexed.found s.inner group.input).1 on) ((shelved.indexed.found s.inner input).1 s.over) in
          record { file = file; inner = s.inner; at = k.1; of = e ∙ ap Some (λ i. record { input = same_input i; slot = same_slot i }); is = is }

  -- what takes a row of a group is a virtual file of it
  pub taken_held : (group : Group) (row : Row) → IsTaken files group row → IsHeldBy (shown gs files) group.input group.slot row
  taken_held group row t = record { number = t.number; takes = record { interval = t.interval; selects = view_selects group t.interval t.number (view_of_taken files group row t); within = t.within } }

  pub held_taken : (input slot : ℕ) (row : Row) → IsHeldBy (shown gs files) input slot row → IsTaken files (record { input = input; slot = slot }) row
  held_taken input slot row h =
      let v = selects_view input slot h.takes.interval h.number h.takes.selects in
      record { number = h.number; file = v.file; inner = v.inner; interval = h.takes.interval; at = v.at; of = v.of; is = v.is; within = h.takes.within }

  -- what it shows of the group's rows
  pub view_shows : (group : Group) (interval : Interval) (n : ℕ) → IsView files group interval n → (state : KeptFile) → get (shown gs files) n ≡ Some state → state.content.rows ≡ of_rows (is_within group.slot interval) (rows_of_group gs group)
  view_shows group interval n v state at =
      subst (λ (s : KeptFile). s.content.rows ≡ of_rows (is_within group.slot interval) (rows_of_group gs group)) (one_value (shown_at gs files n v.file v.at) at)
      (virtual_rows gs v.file.expr v.inner v.file.content group interval v.of v.is)

module _ (gs : Groups) (files : List (ℕ × File)) (numbers : List (Expr × ℕ)) (scans : List (List ℕ × ReaderTables)) (shelved : IsShelved gs files numbers scans) (grouped : IsGrouped files gs) (input slot : ℕ) where
  abbrev group : Group
  group = record { input = input; slot = slot }

  -- the file of a group is that of the selections of its slot
  pub is_range_file : (held : RangeState) → lookup (is_group group) gs ≡ Some held → IsRangeFile (shown gs files) input slot held
  is_range_file held at = record {
    slot = grouped.slots group held at;
    shared = λ interval n s state here. view_shows gs files numbers scans shelved grouped.right grouped.over group interval n (selects_view gs files numbers scans shelved grouped.right grouped.over input slot interval n s) state here
        ∙ ap (of_rows (is_within slot interval)) (rows_there gs group held at);
    taken = all_map (λ (r : SignedRow). IsTaken files group r.row) (λ (r : SignedRow). IsHeldBy (shown gs files) input slot r.row) (λ r t. taken_held gs files numbers scans shelved grouped.right grouped.over group r.row t) held.rows (grouped.taken group held at);
  }

  -- where the group has no file nothing selects so
  pub none_selects : lookup (is_group group) gs ≡ None → (interval : Interval) (n : ℕ) → SelectsRange (shown gs files) input slot interval n → ⊥
  none_selects none interval n s =
      let v = selects_view gs files numbers scans shelved grouped.right grouped.over input slot interval n s in
      there (subst (λ o. IsRightFor gs v.file.expr o) v.of (grouped.right n v.file v.at)).at none

  pub some_range_file : (range : RangeState) × IsRangeFile (shown gs files) input slot range
  some_range_file = by (lookup (is_group group) gs) refl
    where
      by : (o : Option RangeState) → lookup (is_group group) gs ≡ o → (range : RangeState) × IsRangeFile (shown gs files) input slot range
      by (Some held) e = (held, is_range_file held e)
      by None e = (record { slot = slot; rows = [] }, record { slot = refl; shared = λ interval n s. absurd (none_selects e interval n s); taken = tt })
