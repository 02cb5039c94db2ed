-- The files of groups without the rows of later changes.
use Rattle.std.proofs.Common.{◌≡◌, ◌≤◌, ℕ, Bool, true, false, cond, List, [], ◌∷◌, map, Some, None, Option, nat_eq, refl, sym, ap, ◌∙◌, subst}
use Rattle.std.specs.List.{AllByRecursion}
use Rattle.std.specs.Map.{lookup}
use Rattle.std.specs.Option.{option_map, option_map_or}
use Rattle.std.specs.FinMap.{get}
use Rattle.ncq_plan.specs.declared.expr.Expr.{Expr}
use Rattle.ncq_plan.specs.declared.expr.Expr.TheOpen.{Expr-F}
use Rattle.ncq_plan.specs.declared.expr.Expr.TheOpen.Expr-F.{Scan as ScanLayer, EqSel as EqLayer, RangeSel as RangeLayer, Join as JoinLayer}
use Rattle.ncq_plan.specs.declared.expr.Expr.TheViews.{out-Expr}
use Rattle.ncq_plan.specs.Meets.{is_within}
use Rattle.ncq_midfile.specs.Content.{up_to}
use Rattle.ncq_midfile.specs.Views.{RangeState}
use Rattle.ncq_midfile.specs.declared.signed.SignedRow.{SignedRow}
use Rattle.ncq_midfile.proofs.Withins.{up_to_of}
use Rattle.ncq_shelf.specs.Contents.{cut_to}
use Rattle.ncq_shelf.specs.Groups.{Groups, IsGrouped, IsRightFor, IsTaken, content_of, group_of, is_group, picked, rows_of_group}
use Rattle.ncq_shelf.specs.Shown.{shown, state_of, cut_entry, cut_file, cut_group, cut_own, IsBelow}
use Rattle.ncq_shelf.specs.declared.file.File.{File}
use Rattle.ncq_shelf.specs.declared.group.Group.{Group}
use Rattle.ncq_shelf.specs.declared.rows.Rows.{Rows}
use Rattle.ncq_shelf.specs.declared.rows.Rows.TheVariants.{Whole, Ranged}
use Rattle.ncq_shelf.proofs.KeyLaws.{all_part}
use Rattle.ncq_shelf.proofs.Maps.{one_value, there}
use Rattle.ncq_shelf.proofs.ShownFiles.{get_shown}
use Rattle.ncq_shelf.proofs.CutLaws.{lookup_cut}

module _ (change : ℕ) where
  pub below_of : (gs : Groups) (expr : Expr) (rows : Rows) → (content_of gs expr rows).base ≤ change → IsBelow change rows
  below_of gs expr (Whole file) h = h
  below_of gs expr (Ranged group base) h = tt

  abbrev cut_state : RangeState → RangeState
  cut_state held = record { slot = held.slot; rows = up_to change held.rows }

  pub group_cut_at : (gs : Groups) (group : Group) → lookup (is_group group) (map (cut_group change) gs) ≡ option_map cut_state (lookup (is_group group) gs)
  group_cut_at [] group = refl
  group_cut_at (e ∷ gs) group = ap (λ o. cond (is_group group e.0) (Some (cut_state e.1)) o) (group_cut_at gs group) ∙ by (is_group group e.0)
    where
      by : (b : Bool) → cond b (Some (cut_state e.1)) (option_map cut_state (lookup (is_group group) gs)) ≡ option_map cut_state (cond b (Some e.1) (lookup (is_group group) gs))
      by true = refl
      by false = refl

  rows_cut : (gs : Groups) (group : Group) → rows_of_group (map (cut_group change) gs) group ≡ up_to change (rows_of_group gs group)
  rows_cut gs group = ap (λ o. option_map_or (λ (h : RangeState). h.rows) o []) (group_cut_at gs group) ∙ by (lookup (is_group group) gs)
    where
      by : (o : Option RangeState) → option_map_or (λ (h : RangeState). h.rows) (option_map cut_state o) [] ≡ up_to change (option_map_or (λ (h : RangeState). h.rows) o [])
      by None = refl
      by (Some h) = refl

  picked_cut : (layer : Expr-F Expr) (rows : List SignedRow) → picked layer (up_to change rows) ≡ up_to change (picked layer rows)
  picked_cut (ScanLayer source shape) rows = refl
  picked_cut (EqLayer of slot constant) rows = refl
  picked_cut (RangeLayer of slot interval) rows = sym (up_to_of change (is_within slot interval) rows)
  picked_cut (JoinLayer left right pairs) rows = refl

  module _ (gs : Groups) where
    state_cut : (file : File) → state_of (map (cut_group change) gs) (cut_file change file) ≡ cut_to change (state_of gs file)
    state_cut file = by file.content
      where
        by : (rows : Rows) → record { expr = file.expr; uses = file.uses; content = content_of (map (cut_group change) gs) file.expr (cut_own change rows) } ≡ cut_to change (record { expr = file.expr; uses = file.uses; content = content_of gs file.expr rows })
        by (Whole own) = refl
        by (Ranged group base) = λ i. record {
          expr = file.expr;
          uses = file.uses;
          content = record { base = base; rows = (ap (picked (out-Expr file.expr)) (rows_cut gs group) ∙ picked_cut (out-Expr file.expr) (rows_of_group gs group)) i };
        }

    seen_cut : (o : Option File) → option_map (state_of (map (cut_group change) gs)) (option_map (cut_file change) o) ≡ option_map (cut_to change) (option_map (state_of gs) o)
    seen_cut (Some f) = ap Some (state_cut f)
    seen_cut None = refl

    -- what is seen at a number after that
    pub shown_all_cut : (es : List (ℕ × File)) (n : ℕ) → get (shown (map (cut_group change) gs) (map (cut_entry change) es)) n ≡ option_map (cut_to change) (get (shown gs es) n)
    shown_all_cut es n =
        get_shown (map (cut_group change) gs) (map (cut_entry change) es) n ∙ ap (option_map (state_of (map (cut_group change) gs))) (lookup_cut gs change n es)
        ∙ seen_cut (lookup (nat_eq n) es) ∙ ap (option_map (cut_to change)) (sym (get_shown gs es n))

    right_cut : (expr : Expr) (o : Option Group) → IsRightFor gs expr o → IsRightFor (map (cut_group change) gs) expr o
    right_cut expr None h = h
    right_cut expr (Some group) v = record { inner = v.inner; interval = v.interval; is = v.is; held = cut_state v.held; at = group_cut_at gs group ∙ ap (option_map cut_state) v.at; slot = v.slot }

    pub grouped_all_cut : (es : List (ℕ × File)) → IsGrouped es gs → IsGrouped es (map (cut_group change) gs)
    grouped_all_cut es grouped = record {
      right = λ n file at. right_cut file.expr (group_of file.content) (grouped.right n file at);
      over = grouped.over;
      slots = λ group held at. slot_cut group held at (lookup (is_group group) gs) refl;
      taken = λ group held at. by group held at (lookup (is_group group) gs) refl;
    }
      where
        slot_cut : (group : Group) (held : RangeState) → lookup (is_group group) (map (cut_group change) gs) ≡ Some held → (o : Option RangeState) → lookup (is_group group) gs ≡ o → held.slot ≡ group.slot
        slot_cut group held at None none = absurd (there at (group_cut_at gs group ∙ ap (option_map cut_state) none))
        slot_cut group held at (Some old) before =
            let e : cut_state old ≡ held = one_value (group_cut_at gs group ∙ ap (option_map cut_state) before) at in
            ap (λ (h : RangeState). h.slot) (sym e) ∙ grouped.slots group old before

        by : (group : Group) (held : RangeState) → lookup (is_group group) (map (cut_group change) gs) ≡ Some held → (o : Option RangeState) → lookup (is_group group) gs ≡ o → AllByRecursion (λ r. IsTaken es group r.row) held.rows
        by group held at None none = absurd (there at (group_cut_at gs group ∙ ap (option_map cut_state) none))
        by group held at (Some old) before =
            let e : cut_state old ≡ held = one_value (group_cut_at gs group ∙ ap (option_map cut_state) before) at in
            subst (λ (h : RangeState). AllByRecursion (λ r. IsTaken es group r.row) h.rows) e (all_part (λ r. IsTaken es group r.row) _ old.rows (grouped.taken group old before))
