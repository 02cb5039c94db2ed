-- The rows below a view are as wide as its own: each is one of some virtual file over the same input.
use Rattle.std.proofs.Common.{◌≡◌, ◌<◌, ℕ, zero, suc, Bool, true, false, cond, List, [], ◌∷◌, length, Some, None, Option, nat_eq, refl, sym, ap, ◌∙◌, subst, true≢false}
use Rattle.std.specs.Prelude.{slice_get}
use Rattle.std.specs.List.{All, AllByRecursion}
use Rattle.std.proofs.lemmas.List.Elements.{All-from_recursion}
use Rattle.ncq_midfile.specs.Matching.{HaveSlots}
use Rattle.ncq_shelf.proofs.KeyLaws.{all_map}
use Rattle.std.specs.Map.{lookup}
use Rattle.std.specs.Option.{option_map_or}
use Rattle.std.specs.FinMap.{get}
use Rattle.ncq_plan.specs.declared.expr.Expr.{Expr}
use Rattle.ncq_plan.specs.declared.expr.Expr.TheVariants.{RangeSel}
use Rattle.ncq_plan.specs.declared.expr.Expr.TheViews.{out-Expr}
use Rattle.ncq_plan.specs.Exprs.{expr_width}
use Rattle.ncq_plan.specs.Meets.{is_within}
use Rattle.ncq_plan.proofs.CallerLemmas.{width_range}
use Rattle.ncq_row.specs.Embeddings.{Row}
use Rattle.ncq_midfile.specs.Shown.{shown as view_shown, rows_below}
use Rattle.ncq_midfile.specs.Views.{RangeState, of_rows}
use Rattle.ncq_midfile.specs.declared.signed.SignedRow.{SignedRow}
use Rattle.ncq_midfile.specs.declared.view.View.{View}
use Rattle.ncq_readers.specs.ReaderTables.{ReaderTables}
use Rattle.ncq_shelf.specs.Contents.{AreWide}
use Rattle.ncq_shelf.specs.Groups.{Groups, IsGrouped, IsRightFor, IsTaken, content_of, group_of, picked, rows_of_group}
use Rattle.ncq_shelf.specs.Inputs.{AreInputs}
use Rattle.ncq_shelf.specs.KeptFiles.{KeptFile, Files}
use Rattle.ncq_shelf.specs.Shown.{shown, state_of}
use Rattle.ncq_shelf.specs.Stands.{Stands}
use Rattle.ncq_shelf.specs.Wired.{IsShelved}
use Rattle.ncq_shelf.specs.declared.file.File.{File}
use Rattle.ncq_shelf.specs.declared.group.Group.{Group}
use Rattle.ncq_shelf.specs.declared.rows.Rows.{Rows}
use Rattle.ncq_shelf.specs.declared.rows.Rows.TheVariants.{Whole, Ranged}
use Rattle.ncq_shelf.proofs.Grouped.{not_both}
use Rattle.ncq_shelf.proofs.Indexes.{shown_at}
use Rattle.ncq_shelf.proofs.Layers.{out-RangeSel, input_of-range}
use Rattle.ncq_shelf.proofs.Maps.{one_value}

module _ {A : Type 0} (P : A → Type 0) where
  pub each_at : (xs : List A) → AllByRecursion P xs → (i : ℕ) (x : A) → slice_get xs i ≡ Some x → P x
  each_at [] all zero x at = cc
  each_at [] all (suc i) x at = cc
  each_at (y ∷ ys) all zero x at = subst P (one_value {x = y} refl at) all.0
  each_at (y ∷ ys) all (suc i) x at = each_at ys all.1 i x at

  pub from_each : (xs : List A) → ((i : ℕ) (x : A) → slice_get xs i ≡ Some x → P x) → AllByRecursion P xs
  from_each [] h = tt
  from_each (x ∷ xs) h = (h 0 x refl, from_each xs (λ i y at. h (suc i) y at))

-- what holds of the rows of a test
pub of_test : (P : SignedRow → Type 0) (test : Row → Bool) (rows : List SignedRow) → AllByRecursion P (of_rows test rows) → AllByRecursion (λ r. test r.row ≡ true → P r) rows
of_test P test [] all = tt
of_test P test (r ∷ rows) all = by (test r.row) refl all (λ a. of_test P test rows a)
  where
    by : (b : Bool) → test r.row ≡ b → AllByRecursion P (cond b (r ∷ of_rows test rows) (of_rows test rows)) → (AllByRecursion P (of_rows test rows) → AllByRecursion (λ r. test r.row ≡ true → P r) rows)
        → (test r.row ≡ true → P r) × AllByRecursion (λ r. test r.row ≡ true → P r) rows
    by true e a rest = ((λ _. a.0), rest a.1)
    by false e a rest = ((λ yes. absurd (true≢false (sym yes ∙ e))), rest a)

-- slots below the width of all rows are there
pub slots_had : (slots : List ℕ) (width : ℕ) (rows : List SignedRow) → AllByRecursion (λ slot. slot < width) slots → AllByRecursion (λ r. length r.row ≡ width) rows → HaveSlots slots rows
slots_had slots width rows below wide =
    All-from_recursion (λ (r : SignedRow). All (λ slot. slot < length r.row) slots) rows
    (all_map (λ (r : SignedRow). length r.row ≡ width) (λ (r : SignedRow). All (λ slot. slot < length r.row) slots)
    (λ r e. All-from_recursion (λ slot. slot < length r.row) slots (subst (λ n. AllByRecursion (λ slot. slot < n) slots) (sym e) below)) rows wide)

-- what a virtual file shows
pub virtual_rows : (gs : Groups) (expr inner : Expr) (rows : Rows) (group : Group) (interval : _) → group_of rows ≡ Some group → expr ≡ RangeSel inner group.slot interval
    → (content_of gs expr rows).rows ≡ of_rows (is_within group.slot interval) (rows_of_group gs group)
virtual_rows gs expr inner (Whole file) group interval of is = absurd (not_both of)
virtual_rows gs expr inner (Ranged g base) group interval of is =
    let same : g ≡ group = one_value {x = g} refl of in
    (λ i. picked ((ap out-Expr is ∙ out-RangeSel inner group.slot interval) i) (rows_of_group gs (same i)))

module _ (gs : Groups) (files : List (ℕ × File)) (numbers : List (Expr × ℕ)) (scans : List (List ℕ × ReaderTables)) (shelved : IsShelved gs files numbers scans) (grouped : IsGrouped files gs) where
  -- the input of a virtual file
  pub over_inner : (n : ℕ) (file : File) (group : Group) (inner : Expr) (slot : ℕ) (interval : _) → lookup (nat_eq n) files ≡ Some file → group_of file.content ≡ Some group → file.expr ≡ RangeSel inner slot interval
      → Stands (shown gs files) inner group.input
  over_inner n file group inner slot interval at of is =
      let a = subst (λ i. AreInputs (shown gs files) file.expr i) (grouped.over n file group at of) (shelved.indexed.inputs n file at) in
      subst (λ e. Stands (shown gs files) e group.input) (input_of-range a.input inner slot interval (subst (λ e. Rattle.ncq_shelf.specs.Parts.IsInput a.input e) is a.reads)) a.stands

  pub one_inner : (n m : ℕ) (file other : File) (group : Group) (inner outer : Expr) (slot t : ℕ) (interval between : _) → lookup (nat_eq n) files ≡ Some file → lookup (nat_eq m) files ≡ Some other
      → group_of file.content ≡ Some group → group_of other.content ≡ Some group → file.expr ≡ RangeSel inner slot interval → other.expr ≡ RangeSel outer t between → inner ≡ outer
  one_inner n m file other group inner outer slot t interval between at there of by is was =
      let a = over_inner n file group inner slot interval at of is in
      let b = over_inner m other group outer t between there by was in
      sym a.of ∙ ap (λ (f : KeptFile). f.expr) (one_value a.at b.at) ∙ b.of

  module _ (m : Files) (seen : shown gs files ≡ m) (wide : AreWide m) where
    abbrev Wide : Expr → SignedRow → Type 0
    Wide expr r = length r.row ≡ expr_width expr

    pub wide_at : (n : ℕ) (file : File) → lookup (nat_eq n) files ≡ Some file → AllByRecursion (Wide file.expr) (content_of gs file.expr file.content).rows
    wide_at n file at = wide n (state_of gs file) (subst (λ f. get f n ≡ Some (state_of gs file)) seen (shown_at gs files n file at))

    pub wide_group : (n : ℕ) (file : File) (group : Group) → lookup (nat_eq n) files ≡ Some file → group_of file.content ≡ Some group → AllByRecursion (Wide file.expr) (rows_of_group gs group)
    wide_group n file group at of =
        let v = subst (IsRightFor gs file.expr) of (grouped.right n file at) in
        let held : rows_of_group gs group ≡ v.held.rows = ap (λ o. option_map_or (λ (h : RangeState). h.rows) o []) v.at in
        subst (AllByRecursion (Wide file.expr)) (sym held) (from_each (Wide file.expr) v.held.rows (λ i r there.
        let t = each_at (λ (r : SignedRow). IsTaken files group r.row) v.held.rows (grouped.taken group v.held v.at) i r there in
        let rows = virtual_rows gs t.file.expr t.inner t.file.content group t.interval t.of t.is ∙ ap (of_rows (is_within group.slot t.interval)) held in
        let its = each_at (λ (r : SignedRow). is_within group.slot t.interval r.row ≡ true → Wide t.file.expr r) v.held.rows (of_test (Wide t.file.expr) (is_within group.slot t.interval) v.held.rows (subst (AllByRecursion (Wide t.file.expr)) rows (wide_at t.number t.file t.at))) i r there t.within in
        let inner = one_inner t.number n t.file file group t.inner v.inner group.slot group.slot t.interval v.interval t.at at t.of of t.is v.is in
        its ∙ ap expr_width t.is ∙ width_range t.inner group.slot t.interval ∙ ap expr_width inner ∙ sym (width_range v.inner group.slot v.interval) ∙ sym (ap expr_width v.is)))

    pub wide_below : (n : ℕ) (file : File) → lookup (nat_eq n) files ≡ Some file → (state : KeptFile) → get m n ≡ Some state → (view : View) → view_shown view ≡ content_of gs file.expr file.content
        → (group_of file.content ≡ None → rows_below view ≡ (view_shown view).rows) → ((group : Group) → group_of file.content ≡ Some group → rows_below view ≡ rows_of_group gs group)
        → AllByRecursion (λ r. length r.row ≡ expr_width state.expr) (rows_below view)
    wide_below n file at state there view is own below =
        let same : state_of gs file ≡ state = one_value (subst (λ f. get f n ≡ Some (state_of gs file)) seen (shown_at gs files n file at)) there in
        subst (λ (s : KeptFile). AllByRecursion (Wide s.expr) (rows_below view)) same (by (group_of file.content) refl)
      where
        by : (o : Option Group) → group_of file.content ≡ o → AllByRecursion (Wide file.expr) (rows_below view)
        by None e = subst (AllByRecursion (Wide file.expr)) (sym (own e ∙ ap (λ s. s.rows) is)) (wide_at n file at)
        by (Some group) e = subst (AllByRecursion (Wide file.expr)) (sym (below group e)) (wide_group n file group at e)
