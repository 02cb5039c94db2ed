use Rattle.std.proofs.Common.{not, ◌&&◌, nat_le, true≢false, ap, ◌∙◌, sym}
use Rattle.std.proofs.lemmas.Bool.{le-leb, ltb-false}
use Rattle.ncq_midfile.specs.LossCounts.{is_row, loss_count}
use Rattle.ncq_midfile.proofs.Strikes.{takes_of_own, row_is}
use Rattle.ncq_midfile.proofs.fold.is_left.Goals as goal
use Rattle.ncq_midfile.proofs.fold.is_left.Goals.{then-signed, else-signed}

pub returns-else-signed-bound-clause-lost : goal.returns-else-signed-bound-clause-lost
returns-else-signed-bound-clause-lost c = λ q.
    let signed = c.args.signed.now in
    let old = c.args.lost.now.entries in
    let new = c.take_loss.new.lost.entries in
    let own = nat_le signed.number c.args.bound && not signed.plus in
    let bound = c.if-signed-bound.false in
    takes_of_own (is_row q signed.row) own c.take_loss.result (loss_count q old) (loss_count q new)
    (elim c.if-signed.branch [
      | then-signed w ↦ absurd (true≢false (sym w.if-signed.true ∙ sym w.value-is ∙ bound))
      | else-signed w ↦
          let low = le-leb signed.number c.args.bound (ltb-false c.args.bound signed.number (sym w.value-is ∙ bound)) in
          λ i. low i && not (w.if-signed.false i)
    ])
    (λ s t. ap (λ x. loss_count x old) (row_is q signed.row s) ∙ c.take_loss.ensures.none t) (c.take_loss.ensures.counts q)
