-- What is left of a group's file when one of its intervals goes.
use Rattle.std.proofs.Common.{◌≡◌, ℕ, cond, List, [], ◌∷◌, Some, None, Option, nat_eq, refl, sym, ap, ◌∙◌}
use Rattle.std.specs.Map.{lookup, keys_of}
use Rattle.std.specs.Option.{option_map_or}
use Rattle.ncq_base.specs.declared.atom.FileId.{FileId}
use Rattle.ncq_base.specs.declared.interval.Interval.{Interval}
use Rattle.ncq_plan.specs.declared.expr.Expr.{Expr}
use Rattle.ncq_plan.specs.declared.expr.Expr.TheVariants.{RangeSel}
use Rattle.ncq_midfile.specs.Views.{RangeState, is_held, is_kept, of_rows}
use Rattle.ncq_midfile.specs.declared.signed.SignedRow.{SignedRow}
use Rattle.ncq_midfile.proofs.ViewLaws.{kept_are_held}
use Rattle.ncq_shelf.specs.Enrolled.{HasFile}
use Rattle.ncq_shelf.specs.Groups.{Groups, HasGroup, IsReleased, intervals_at, is_group, rows_of_group}
use Rattle.ncq_shelf.specs.declared.file.File.{File}
use Rattle.ncq_shelf.specs.declared.group.Group.{Group}
use Rattle.ncq_shelf.proofs.Maps.{one_value, there as is_there}
use Rattle.ncq_shelf.proofs.VirtualFiles.{group_itself, rows_there}

-- no interval holds no row
none_pass : (slot : ℕ) (rows : List SignedRow) → of_rows (is_held slot []) rows ≡ []
none_pass slot [] = refl
none_pass slot (r ∷ rows) = none_pass slot rows

no_more : (i : Interval) (is : List Interval) → ◌≡◌ {A = List Interval} [] (i ∷ is) → ⊥
no_more i is h = cc

module _ (files : List (ℕ × File)) (old new : Groups) (group : Group) (gone : Expr) (top : HasFile files group.input) (has : HasGroup old group) where
  abbrev table_at : Option (List (Interval × FileId))
  table_at = lookup (nat_eq group.slot) top.file.readers.ranges

  intervals_are : (o : Option (List (Interval × FileId))) → table_at ≡ o → intervals_at files group ≡ option_map_or keys_of o []
  intervals_are o e =
      ap (λ x. option_map_or (λ (f : File). option_map_or keys_of (lookup (nat_eq group.slot) f.readers.ranges) []) x []) top.at
      ∙ ap (λ x. option_map_or keys_of x []) e

  -- some interval is left
  module _ (table : List (Interval × FileId)) (found : table_at ≡ Some table) (interval : Interval) (its : (inner : Expr) (slot : ℕ) (i : Interval) → gone ≡ RangeSel inner slot i → interval ≡ i)
      (kept : RangeState) (slot : kept.slot ≡ has.held.slot) (rows : kept.rows ≡ of_rows (is_kept has.held.slot interval (keys_of table)) has.held.rows)
      (is : (q : Group) → lookup (is_group q) new ≡ cond (is_group group q) (Some kept) (lookup (is_group q) old)) where
    at_new : lookup (is_group group) new ≡ Some kept
    at_new = is group ∙ ap (λ b. cond b (Some kept) (lookup (is_group group) old)) (group_itself group)

    pub released_some : IsReleased files old group gone new
    released_some = record {
      here = λ inner i same all.
          rows_there new group kept at_new ∙ rows
          ∙ (λ k. of_rows (is_kept (has.slot k) (its inner group.slot i same k) (sym (intervals_are (Some table) found) k)) (sym (rows_there old group has.held has.at) k))
          ∙ kept_are_held group.slot i (intervals_at files group) (rows_of_group old group) all;
      some = λ _ i more e. record { held = kept; at = at_new; slot = slot ∙ has.slot };
      slot = λ _ held at. ap (λ (h : RangeState). h.slot) (one_value at at_new) ∙ slot ∙ has.slot;
      others = λ other differs. is other ∙ ap (λ b. cond b (Some kept) (lookup (is_group other) old)) differs;
    }

  -- none is left
  module _ (none : table_at ≡ None) (is : (q : Group) → lookup (is_group q) new ≡ cond (is_group group q) None (lookup (is_group q) old)) where
    gone_new : lookup (is_group group) new ≡ None
    gone_new = is group ∙ ap (λ b. cond b None (lookup (is_group group) old)) (group_itself group)

    pub released_none : IsReleased files old group gone new
    released_none = record {
      here = λ inner i same all.
          ap (λ o. option_map_or (λ (h : RangeState). h.rows) o []) gone_new
          ∙ sym (ap (λ i. of_rows (is_held group.slot i) (rows_of_group old group)) (intervals_are None none) ∙ none_pass group.slot (rows_of_group old group));
      some = λ _ i more e. absurd (no_more i more (sym (intervals_are None none) ∙ e));
      slot = λ _ held at. absurd (is_there at gone_new);
      others = λ other differs. is other ∙ ap (λ b. cond b None (lookup (is_group other) old)) differs;
    }
