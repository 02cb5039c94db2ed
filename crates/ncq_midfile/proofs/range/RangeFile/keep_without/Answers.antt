use Rattle.std.proofs.Common.{◌≡◌, ◌≤◌, length, map, take, ap, ◌∙◌, sym, subst, arith}
use Rattle.std.specs.Map.{keys_of}
use Rattle.ncq_midfile.specs.Finders.{cut_finder}
use Rattle.ncq_midfile.specs.Views.{is_kept, of_rows}
use Rattle.ncq_midfile.proofs.Rangeds.{ranged_of, cut_whole, ranged_as}
use Rattle.ncq_midfile.proofs.Withins.{front_stays}
use Rattle.ncq_midfile.proofs.range.RangeFile.keep_without.Goals as goal

pub invariant_of-self : goal.invariant_of-self
invariant_of-self c =
    let front = c.count_kept-front.result in
    let slot = c.self.inside.slot in
    let rows = c.self.inside.rows.items in
    let test = is_kept slot c.args.gone.now (keys_of c.args.table.now) in
    let is : c.as_slice.result.now ≡ rows = c.as_slice.ensures.value in
    let within : front ≤ length rows = subst (λ rs. front ≤ length rs) is c.count_kept-front.ensures.within in
    let held = subst (λ rs. of_rows test (take front rs) ≡ take front rs) is c.count_kept-front.ensures.kept in
    let finders = c.self.inside.finders.items in
    let len = c.self.inside.finders.ok.0 in
    let whole = cut_whole (cut_finder front) finders c.cut_all.new.finders c.self.inside.finders.len (c.cut_all.ensures ∙ ap (map (cut_finder front)) c.deref_mut.ensures.value) (omega arith) in
    ranged_as slot _ _ _ _ (sym c.keep_without.ensures) (sym whole)
    (ranged_of slot rows finders c.self.invariant test front (front_stays (λ r. test r.row) front rows within held))
