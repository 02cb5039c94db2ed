use Rattle.std.proofs.Common.{◌≡◌, length, map, ap, ◌∙◌, sym, subst, arith, ◌≤◌}
use Rattle.std.proofs.lemmas.List.{length-map}
use Rattle.ncq_midfile.specs.Files.{AreParted}
use Rattle.ncq_midfile.specs.Finders.{IsFound, cut_finder}
use Rattle.ncq_midfile.proofs.Cuts.{parted_ordered}
use Rattle.ncq_midfile.proofs.FileLaws.{found_take}
use Rattle.ncq_midfile.proofs.IndexLaws.{whole_taken}
use Rattle.ncq_midfile.proofs.file.MidFile.roll_back.Goals as goal

pub invariant_of-self : goal.invariant_of-self
invariant_of-self c =
    let kept = c.count_up_to-kept.result in
    let finders = c.self.inside.finders.items in
    let cut : c.cut_all.new.finders ≡ map (cut_finder kept) finders = c.cut_all.ensures ∙ ap (map (cut_finder kept)) c.deref_mut.ensures.value in
    let long : length c.cut_all.new.finders ≡ length finders = ap length cut ∙ length-map finders (cut_finder kept) in
    let len = c.self.inside.finders.ok.0 in
    let whole = whole_taken finders c.cut_all.new.finders c.self.inside.finders.len long (omega arith) ∙ cut in
    subst (λ fs. IsFound c.self.inside.base c.truncate.new.self.items fs) (sym whole)
    (rw c.truncate.ensures.items (found_take c.self.inside.base kept c.self.inside.rows.items finders c.self.invariant))

pub count_up_to-kept-requires : goal.count_up_to-kept-requires
count_up_to-kept-requires c =
    subst (AreParted c.args.n) (sym c.as_slice.ensures.value)
    (parted_ordered c.args.n c.self.inside.base c.self.inside.rows.items (subst (λ f. f.base ≤ c.args.n) (sym c.self.view_is) c.requires) c.self.invariant.file.ordered)
