use Rattle.std.proofs.Common.{rules, sym, ap, ◌∙◌}
use Rattle.ncq_midfile.specs.Views.{RangeState}
use Rattle.ncq_shelf.proofs.GroupReleases.{released_none, released_some}
use Rattle.ncq_shelf.proofs.Maps.{one_value}
use Rattle.ncq_shelf.proofs.ranged.release.Goals as goal

pub returns-in-Some-get_mut : goal.returns-in-Some-get_mut
returns-in-Some-get_mut c =
    let at = sym c.in-Some-get_mut.ensures.value in
    released_some c.args.files.now.entries c.args.groups.now.entries (c.get_mut.follows.lender c.keep_without.new.self).entries c.args.group c.args.expr.now
    (record { file = c.in-Some.file.now; at = sym c.in-Some.ensures.value })
    (record { held = c.in-Some-get_mut.held.now; at = at; slot = ap (λ (h : RangeState). h.slot) (one_value at c.requires.held.at) ∙ c.requires.held.slot })
    c.in-Some-range_table.table.now (sym c.in-Some-range_table.ensures.table) c.interval_of-interval.result.now c.interval_of-interval.ensures
    c.keep_without.new.self c.keep_without.ensures.slot c.keep_without.ensures.rows ((c.get_mut.follows.holds c.keep_without.new.self).3 (search rules)).0

pub returns-in-None : goal.returns-in-None
returns-in-None c =
    released_none c.args.files.now.entries c.args.groups.now.entries c.swap_remove.new.self.entries c.args.group c.args.expr.now
    (record { file = c.in-Some.file.now; at = sym c.in-Some.ensures.value }) c.requires.held (sym c.in-None.ensures.table) c.swap_remove.ensures.updates.0
