-- Virtual files and the files of their groups.
use Rattle.std.proofs.Common.{◌≡◌, ℕ, List, [], Some, None, Option, nat_eq, refl, sym, ap, subst}
use Rattle.std.specs.Map.{lookup}
use Rattle.std.specs.FinMap.{get}
use Rattle.ncq_plan.specs.declared.expr.Expr.{Expr}
use Rattle.ncq_plan.specs.declared.expr.Expr.TheViews.{out-Expr}
use Rattle.ncq_midfile.specs.Files.{FileState}
use Rattle.ncq_shelf.specs.KeptFiles.{Files}
use Rattle.ncq_shelf.specs.Groups.{Groups, IsRight, IsGrouped, group_of, content_of, picked, rows_of_group, is_group, HasGroup}
use Rattle.ncq_shelf.specs.Ranges.{IsRange, IsNoRange}
use Rattle.ncq_shelf.specs.Shown.{shown, state_of}
use Rattle.ncq_shelf.specs.declared.file.File.{File}
use Rattle.ncq_shelf.specs.declared.group.Group.{Group}
use Rattle.ncq_shelf.specs.declared.rows.Rows.{Rows}
use Rattle.ncq_shelf.specs.declared.rows.Rows.TheVariants.{Whole, Ranged}
use Rattle.ncq_shelf.proofs.Indexes.{shown_at}
use Rattle.ncq_shelf.proofs.Maps.{one_value, there as is_there}

-- rows of its own are what is seen of them
pub own_content : (gs : Groups) (expr : Expr) (rows : Rows) (file : FileState) → rows ≡ Whole file → content_of gs expr rows ≡ file
own_content gs expr rows file is = ap (content_of gs expr) is

pub whole_of : (rows : Rows) → group_of rows ≡ None → (file : FileState) × (rows ≡ Whole file)
whole_of (Whole file) h = (file, refl)
whole_of (Ranged group base) h = cc

-- no group is a group
pub not_both : {group : Group} → ◌≡◌ {A = Option Group} None (Some group) → ⊥
not_both h = cc

-- a virtual file with another base
pub raised_content : (gs : Groups) (expr : Expr) (rows : Rows) (group : Group) (change : ℕ) → group_of rows ≡ Some group
    → content_of gs expr (Ranged group change) ≡ record { base = change; rows = (content_of gs expr rows).rows }
raised_content gs expr (Whole file) group change of = absurd (not_both of)
raised_content gs expr (Ranged g base) group change of =
    let same : g ≡ group = one_value {x = g} refl of in
    λ i. record { base = change; rows = picked (out-Expr expr) (rows_of_group gs (sym same i)) }

-- no files, and no groups
pub grouped_none : (files : List (ℕ × File)) (gs : Groups) → files ≡ [] → gs ≡ [] → IsGrouped files gs
grouped_none files gs no_files no_groups = record {
  right = λ n file at. absurd (is_there at (ap (lookup (nat_eq n)) no_files));
  over = λ n file group at of. absurd (is_there at (ap (lookup (nat_eq n)) no_files));
  slots = λ group held at. absurd (is_there at (ap (lookup (is_group group)) no_groups));
  taken = λ group held at. absurd (is_there at (ap (lookup (is_group group)) no_groups));
}

-- where no file is seen there is none
pub not_there : (gs : Groups) (files : List (ℕ × File)) (number : ℕ) → get (shown gs files) number ≡ None → lookup (nat_eq number) files ≡ None
not_there gs files number none = by (lookup (nat_eq number) files) refl
  where
    by : (o : Option File) → lookup (nat_eq number) files ≡ o → o ≡ None
    by None e = refl
    by (Some file) e = absurd (is_there (shown_at gs files number file e) none)

module _ (gs : Groups) (files : List (ℕ × File)) (m : Files) (is : shown gs files ≡ m) (grouped : IsGrouped files gs) (number : ℕ) (file : File) (at : lookup (nat_eq number) files ≡ Some file) where
  pub seen_there : get m number ≡ Some (state_of gs file)
  seen_there = subst (λ f. get f number ≡ Some (state_of gs file)) is (shown_at gs files number file at)

  -- a file that selects by no interval has rows of its own
  pub no_group : IsNoRange m number → group_of file.content ≡ None
  no_group own = by (group_of file.content) refl
    where
      by : (o : Option Group) → group_of file.content ≡ o → o ≡ None
      by None e = refl
      by (Some group) e =
          let v = subst (λ o. Rattle.ncq_shelf.specs.Groups.IsRightFor gs file.expr o) e (grouped.right number file at) in
          absurd (own (state_of gs file) seen_there (record { inner = v.inner; slot = group.slot; interval = v.interval; is = v.is }))

  -- one that selects by an interval is virtual
  pub has_group : IsRange file.expr → (group : Group) × (group_of file.content ≡ Some group)
  has_group range = by (group_of file.content) refl
    where
      by : (o : Option Group) → group_of file.content ≡ o → (group : Group) × (group_of file.content ≡ Some group)
      by None e = absurd (subst (λ o. Rattle.ncq_shelf.specs.Groups.IsRightFor gs file.expr o) e (grouped.right number file at) range)
      by (Some group) e = (group, e)

  pub group_there : (group : Group) → group_of file.content ≡ Some group → HasGroup gs group
  group_there group of =
      let v = subst (λ o. Rattle.ncq_shelf.specs.Groups.IsRightFor gs file.expr o) of (grouped.right number file at) in
      record { held = v.held; at = v.at; slot = v.slot }
