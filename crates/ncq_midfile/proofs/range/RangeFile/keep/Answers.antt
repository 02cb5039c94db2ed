use Rattle.std.proofs.Common.{◌≡◌, ◌≤◌, length, map, take, ap, ◌∙◌, sym, subst, arith}
use Rattle.ncq_midfile.specs.Finders.{cut_finder}
use Rattle.ncq_midfile.specs.Views.{is_held, of_rows}
use Rattle.ncq_midfile.proofs.Rangeds.{ranged_of, cut_whole, ranged_as}
use Rattle.ncq_midfile.proofs.Withins.{front_stays}
use Rattle.ncq_midfile.proofs.range.RangeFile.keep.Goals as goal

pub invariant_of-self : goal.invariant_of-self
invariant_of-self c =
    let front = c.count_held-front.result in
    let slot = c.self.inside.slot in
    let rows = c.self.inside.rows.items in
    let test = is_held slot c.args.intervals.now in
    let is : c.as_slice.result.now ≡ rows = c.as_slice.ensures.value in
    let within : front ≤ length rows = subst (λ rs. front ≤ length rs) is c.count_held-front.ensures.within in
    let held = subst (λ rs. of_rows test (take front rs) ≡ take front rs) is c.count_held-front.ensures.held in
    let finders = c.self.inside.finders.items in
    let len = c.self.inside.finders.ok.0 in
    let whole = cut_whole (cut_finder front) finders c.cut_all.new.finders c.self.inside.finders.len (c.cut_all.ensures ∙ ap (map (cut_finder front)) c.deref_mut.ensures.value) (omega arith) in
    ranged_as slot _ _ _ _ (sym c.keep_held.ensures) (sym whole)
    (ranged_of slot rows finders c.self.invariant test front (front_stays (λ r. test r.row) front rows within held))
