use Rattle.std.proofs.Common.{List, ◌∷◌, sym, ◌∙◌, subst}
use Rattle.ncq_base.specs.Counts.{SameCounts}
use Rattle.ncq_base.specs.declared.atom.FileId.{FileId}
use Rattle.ncq_base.specs.declared.interval.Interval.{Interval}
use Rattle.ncq_consttab.proofs.Intervals.{swapped_out}
use Rattle.ncq_consttab.proofs.TreeLaws.{left_same}
use Rattle.ncq_consttab.proofs.range.RangeTable.remove.Goals as goal

pub returns-clause-others : goal.returns-clause-others
returns-clause-others c =
    let found = sym c.swap_remove.ensures.value ∙ c.in_ok-file.was in
    let left = subst (λ (new : List (Interval × FileId)). SameCounts c.self.inside.files.entries ((c.args.constant.now, c.in_ok-file.file) ∷ new)) (sym c.swap_remove.ensures.entries)
    (swapped_out c.self.inside.files.entries c.args.constant.now c.in_ok-file.file found) in
    subst (λ (old : List (Interval × FileId)). SameCounts old ((c.args.constant.now, c.in_ok-file.file) ∷ c.swap_remove.new.self.entries)) c.self.view_is left

pub invariant_of-self-2 : goal.invariant_of-self-2
invariant_of-self-2 c =
    let old = c.self.inside.files.entries in
    let new = c.swap_remove.new.self.entries in
    let gone = subst (λ (es : List (Interval × FileId)). SameCounts es ((c.args.constant.now, c.in_ok-file.file) ∷ new)) (sym c.self.view_is) (returns-clause-others c) in
    let same = subst (λ tree. SameCounts tree old) (sym c.take.ensures.tree) c.self.invariant in
    left_same c.without-rest.result.0 (c.args.constant.now, c.in_ok-file.file) c.take.result c.without-rest.result.1 old new c.without-rest.ensures same gone
