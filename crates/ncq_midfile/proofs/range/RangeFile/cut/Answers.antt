use Rattle.std.proofs.Common.{map, ap, ◌∙◌, sym, subst, arith}
use Rattle.ncq_midfile.specs.Files.{AreParted}
use Rattle.ncq_midfile.specs.Finders.{cut_finder}
use Rattle.ncq_midfile.proofs.Cuts.{parted_numbered}
use Rattle.ncq_midfile.proofs.Rangeds.{ranged_take, cut_whole, ranged_as}
use Rattle.ncq_midfile.proofs.range.RangeFile.cut.Goals as goal

pub invariant_of-self : goal.invariant_of-self
invariant_of-self c =
    let kept = c.count_up_to-kept.result in
    let slot = c.self.inside.slot in
    let rows = c.self.inside.rows.items in
    let finders = c.self.inside.finders.items in
    let len = c.self.inside.finders.ok.0 in
    let whole = cut_whole (cut_finder kept) finders c.cut_all.new.finders c.self.inside.finders.len (c.cut_all.ensures ∙ ap (map (cut_finder kept)) c.deref_mut.ensures.value) (omega arith) in
    ranged_as slot _ _ _ _ (sym c.truncate.ensures.items) (sym whole) (ranged_take slot rows finders c.self.invariant kept)

pub count_up_to-kept-requires : goal.count_up_to-kept-requires
count_up_to-kept-requires c = subst (AreParted c.args.n) (sym c.as_slice.ensures.value) (parted_numbered c.args.n 0 c.self.inside.rows.items c.self.invariant.numbered)
