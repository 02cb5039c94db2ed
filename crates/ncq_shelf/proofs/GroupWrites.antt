-- A group's file that is written over, and the files that are views of it or are not.
use Rattle.std.proofs.Common.{◌≡◌, ◌⊎◌, ℕ, Bool, true, false, cond, List, [], Some, None, Option, nat_eq, inl, inr, refl, sym, ap, ◌∙◌, subst}
use Rattle.std.specs.List.{AllByRecursion}
use Rattle.std.specs.Map.{lookup}
use Rattle.std.specs.Option.{option_map_or}
use Rattle.ncq_base.specs.declared.interval.Interval.{Interval}
use Rattle.ncq_plan.specs.declared.expr.Expr.{Expr}
use Rattle.ncq_plan.specs.declared.expr.Expr.TheVariants.{RangeSel}
use Rattle.ncq_plan.specs.declared.expr.Expr.TheViews.{out-Expr}
use Rattle.ncq_midfile.specs.Views.{RangeState}
use Rattle.ncq_midfile.specs.declared.signed.SignedRow.{SignedRow}
use Rattle.ncq_shelf.specs.Groups.{Groups, IsGrouped, IsRightFor, IsTaken, content_of, group_of, is_group, picked}
use Rattle.ncq_shelf.specs.Shown.{state_of}
use Rattle.ncq_shelf.specs.declared.file.File.{File}
use Rattle.ncq_shelf.specs.declared.group.Group.{Group}
use Rattle.ncq_shelf.specs.declared.rows.Rows.{Rows}
use Rattle.ncq_shelf.specs.declared.rows.Rows.TheVariants.{Whole, Ranged}
use Rattle.ncq_shelf.proofs.GroupGains.{group_is, group_itself}
use Rattle.ncq_shelf.proofs.Maps.{one_value, there}

abbrev pub rows_in : Option RangeState → List SignedRow
rows_in o = option_map_or (λ (h : RangeState). h.rows) o []

-- a file is a view of the group, or not
pub record IsViewOf (group : Group) (file : File) : Type 0 where
  pub inner : Expr
  pub interval : Interval
  pub of : group_of file.content ≡ Some group
  pub is : file.expr ≡ RangeSel inner group.slot interval

abbrev pub IsOther : Group → File → Type 0
IsOther group file = (g : Group) → group_of file.content ≡ Some g → is_group group g ≡ false

pub view_or_other : (gs : Groups) (files : List (ℕ × File)) (grouped : IsGrouped files gs) (group : Group) (number : ℕ) (file : File) → lookup (nat_eq number) files ≡ Some file → IsViewOf group file ⊎ IsOther group file
view_or_other gs files grouped group number file at = by (group_of file.content) refl
  where
    in_group : (g : Group) → group_of file.content ≡ Some g → (b : Bool) → is_group group g ≡ b → IsViewOf group file ⊎ IsOther group file
    in_group g of true q =
        let same : g ≡ group = sym (group_is group g q) in
        let of_group : group_of file.content ≡ Some group = of ∙ ap Some same in
        let v = subst (IsRightFor gs file.expr) of_group (grouped.right number file at) in
        inl (record { inner = v.inner; interval = v.interval; of = of_group; is = v.is })
    in_group g of false q = inr (λ k is. subst (λ (x : Group). is_group group x ≡ false) (one_value of is) q)

    by : (o : Option Group) → group_of file.content ≡ o → IsViewOf group file ⊎ IsOther group file
    by None e = inr (λ g of. absurd (there of e))
    by (Some g) e = in_group g e (is_group group g) refl

-- the group's file is another, and all other groups are as before
module _ (gs hs : Groups) (group : Group) (held w : RangeState) (at : lookup (is_group group) gs ≡ Some held)
    (now : (q : Group) → lookup (is_group q) hs ≡ cond (is_group group q) (Some w) (lookup (is_group q) gs)) where
  elsewhere : (q : Group) → is_group group q ≡ false → lookup (is_group q) hs ≡ lookup (is_group q) gs
  elsewhere q other = now q ∙ ap (λ b. cond b (Some w) (lookup (is_group q) gs)) other

  pub here : lookup (is_group group) hs ≡ Some w
  here = now group ∙ ap (λ b. cond b (Some w) (lookup (is_group group) gs)) (group_itself group)

  pub same_base : (expr : Expr) (content : Rows) → (content_of hs expr content).base ≡ (content_of gs expr content).base
  same_base expr (Whole file) = refl
  same_base expr (Ranged g base) = refl

  -- what is no view of the group shows what it showed
  other_content : (expr : Expr) (content : Rows) → ((g : Group) → group_of content ≡ Some g → is_group group g ≡ false) → content_of hs expr content ≡ content_of gs expr content
  other_content expr (Whole file) h = refl
  other_content expr (Ranged g base) h = λ i. record { base = base; rows = picked (out-Expr expr) (rows_in (elsewhere g (h g refl) i)) }

  pub other_same : (file : File) → IsOther group file → state_of hs file ≡ state_of gs file
  other_same file h = λ i. record { expr = file.expr; uses = file.uses; content = other_content file.expr file.content h i }

  -- virtual files have their groups still, where each row is taken
  pub grouped_then : (slot : w.slot ≡ held.slot) (files : List (ℕ × File)) (grouped : IsGrouped files gs) → AllByRecursion (λ r. IsTaken files group r.row) w.rows → IsGrouped files hs
  grouped_then slot files grouped taken = record {
    right = λ n file at. right_on file.expr (group_of file.content) (grouped.right n file at);
    over = grouped.over;
    slots = λ g h found. slots_on g h (is_group group g) refl found;
    taken = λ g h found. taken_on g h (is_group group g) refl found;
  }
    where
      right_some : (expr : Expr) (g : Group) (b : Bool) → is_group group g ≡ b → IsRightFor gs expr (Some g) → IsRightFor hs expr (Some g)
      right_some expr g true q v =
          let same : group ≡ g = group_is group g q in
          let its : held ≡ v.held = one_value (subst (λ (x : Group). lookup (is_group x) gs ≡ Some held) same at) v.at in
          record { inner = v.inner; interval = v.interval; is = v.is; held = w; at = subst (λ (x : Group). lookup (is_group x) hs ≡ Some w) same here; slot = slot ∙ ap (λ (s : RangeState). s.slot) its ∙ v.slot }
      right_some expr g false q v = record { inner = v.inner; interval = v.interval; is = v.is; held = v.held; at = elsewhere g q ∙ v.at; slot = v.slot }

      right_on : (expr : Expr) (o : Option Group) → IsRightFor gs expr o → IsRightFor hs expr o
      right_on expr None h = h
      right_on expr (Some g) v = right_some expr g (is_group group g) refl v

      slots_on : (g : Group) (h : RangeState) (b : Bool) → is_group group g ≡ b → lookup (is_group g) hs ≡ Some h → h.slot ≡ g.slot
      slots_on g h true q found =
          let same : group ≡ g = group_is group g q in
          let its : w ≡ h = one_value (subst (λ (x : Group). lookup (is_group x) hs ≡ Some w) same here) found in
          ap (λ (s : RangeState). s.slot) (sym its) ∙ slot ∙ grouped.slots group held at ∙ ap (λ (x : Group). x.slot) same
      slots_on g h false q found = grouped.slots g h (sym (elsewhere g q) ∙ found)

      taken_on : (g : Group) (h : RangeState) (b : Bool) → is_group group g ≡ b → lookup (is_group g) hs ≡ Some h → AllByRecursion (λ r. IsTaken files g r.row) h.rows
      taken_on g h true q found =
          let same : group ≡ g = group_is group g q in
          let its : w ≡ h = one_value (subst (λ (x : Group). lookup (is_group x) hs ≡ Some w) same here) found in
          subst (λ (x : Group). AllByRecursion (λ r. IsTaken files x r.row) h.rows) same
          (subst (λ (s : RangeState). AllByRecursion (λ r. IsTaken files group r.row) s.rows) its taken)
      taken_on g h false q found = grouped.taken g h (sym (elsewhere g q) ∙ found)
