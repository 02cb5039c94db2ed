use Rattle.std.proofs.Common.{◌++◌, cond, ◌∷◌, [], ap, ◌∙◌, sym, nat_le, get_or}
use Rattle.ncq_midfile.specs.Folds.{is_candidate}
use Rattle.ncq_midfile.specs.Matching.{passes}
use Rattle.ncq_midfile.specs.declared.signed.SignedRow.{SignedRow}
use Rattle.ncq_midfile.proofs.Foldeds.{filter_more}
use Rattle.ncq_midfile.proofs.Parts.{some_at}
use Rattle.ncq_midfile.proofs.fold.candidates.Goals as goal

pub loop-place-preserved : goal.loop-place-preserved
loop-place-preserved c =
    let i = c.loop-place.place in
    let bound = get_or c.args.bounds.now i 0 in
    let r = c.index-rows-place.result in
    let at = some_at c.args.rows.now i r c.loop-place-test.true c.index-rows-place.is in
    c.in_ok-push_where.ensures
    ∙ ap (λ (s : SignedRow). c.loop-place.places ++ cond (nat_le s.number bound) (i ∷ []) []) (sym c.index-rows-place.is)
    ∙ ap (λ ps. ps ++ cond (nat_le r.number bound) (i ∷ []) []) c.loop-place.invariant
    ∙ sym (filter_more (is_candidate c.args.rows.now c.args.bounds.now) i (nat_le r.number bound) (ap (passes (λ s. nat_le s.number bound)) at))
