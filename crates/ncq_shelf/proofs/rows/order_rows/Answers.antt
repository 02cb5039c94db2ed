use Rattle.std.proofs.Common.{[], ◌∷◌, sym, ap, ◌∙◌, subst}
use Rattle.std.specs.Map.{set_value}
use Rattle.std.specs.Option.{option_map_or}
use Rattle.ncq_midfile.specs.Matching.{HaveSlots}
use Rattle.ncq_midfile.specs.Views.{RangeState}
use Rattle.ncq_readers.proofs.TableLaws.{same_kept}
use Rattle.ncq_shelf.specs.Groups.{group_of, is_group}
use Rattle.ncq_shelf.proofs.Maps.{there}
use Rattle.ncq_shelf.proofs.rows.order_rows.Goals as goal

pub unreachable-requires : goal.unreachable-requires
unreachable-requires c = there (c.requires.there c.in-Ranged.group (ap group_of c.in-Ranged.is)).at (sym c.in_default.ensures.value)

pub ensure_order-requires-in-Ranged : goal.ensure_order-requires-in-Ranged
ensure_order-requires-in-Ranged c =
    subst (HaveSlots (c.args.slot ∷ [])) (ap (λ o. option_map_or (λ (h : RangeState). h.rows) o []) (sym c.in-Some.ensures.value)) (c.requires.ranged c.in-Ranged.group (ap group_of c.in-Ranged.is))

pub returns-in-Some-clause-groups : goal.returns-in-Some-clause-groups
returns-in-Some-clause-groups c =
    (c.get_mut.follows.holds c.ensure_order-in-Ranged.new.self).0
    ∙ ap (set_value (is_group c.in-Ranged.group) c.args.groups.now.entries) c.ensure_order-in-Ranged.ensures
    ∙ same_kept (is_group c.in-Ranged.group) c.args.groups.now.entries c.in-Some.held.now (sym c.in-Some.ensures.value)
