use Rattle.std.proofs.Common.{◌≡◌, ℕ, Some, None, sym, subst}
use Rattle.std.specs.Prelude.{IfSome, IfNone}
use Rattle.std.specs.Map.{lookup}
use Rattle.std.specs.Option.{option_copied}
use Rattle.ncq_base.specs.declared.interval.Interval.{Interval}
use Rattle.ncq_shelf.specs.Groups.{is_group}
use Rattle.ncq_shelf.specs.Ranges.{IsRangeFile, SelectsRange}
use Rattle.ncq_shelf.proofs.VirtualFiles.{is_range_file, none_selects}
use Rattle.ncq_shelf.proofs.shelf.Shelf.range_file.Goals as goal

pub returns-clause-some : goal.returns-clause-some
returns-clause-some c =
    elim c.get.result as (λ r. option_copied r ≡ lookup (is_group (record { input = c.args.input; slot = c.args.slot })) c.self.inside.groups.entries
    → IfSome r (λ range. IsRangeFile c.args.self.now c.args.input c.args.slot range.now)) [
      | Some range ↦ λ e. subst (λ m. IsRangeFile m c.args.input c.args.slot range.now) c.self.view_is
          (is_range_file c.self.inside.groups.entries c.self.inside.files.entries c.self.inside.numbers.entries c.self.inside.scans.entries c.self.invariant.shelved c.self.invariant.grouped c.args.input c.args.slot range.now (sym e))
      | None ↦ λ e. tt
    ] c.get.ensures.value

pub returns-clause-none : goal.returns-clause-none
returns-clause-none c =
    elim c.get.result as (λ r. option_copied r ≡ lookup (is_group (record { input = c.args.input; slot = c.args.slot })) c.self.inside.groups.entries
    → IfNone r ((interval : Interval) (number : ℕ) → SelectsRange c.args.self.now c.args.input c.args.slot interval number → ⊥)) [
      | Some range ↦ λ e. tt
      | None ↦ λ e interval number s.
          none_selects c.self.inside.groups.entries c.self.inside.files.entries c.self.inside.numbers.entries c.self.inside.scans.entries c.self.invariant.shelved c.self.invariant.grouped c.args.input c.args.slot (sym e) interval number
          (subst (λ m. SelectsRange m c.args.input c.args.slot interval number) (sym c.self.view_is) s)
    ] c.get.ensures.value
