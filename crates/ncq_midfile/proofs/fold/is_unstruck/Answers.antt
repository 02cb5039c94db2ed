use Rattle.std.proofs.Common.{◌≡◌, Bool, true, false, not, ◌&&◌, nat_le, ap, ◌∙◌, sym, subst}
use Rattle.std.proofs.lemmas.Bool.{le-leb}
use Rattle.ncq_midfile.specs.LossCounts.{is_row, loss_count, TakesLoss}
use Rattle.ncq_midfile.proofs.Strikes.{takes_of_own, row_is}
use Rattle.ncq_midfile.proofs.fold.is_unstruck.Goals as goal

twice_not : (b : Bool) → not (not b) ≡ b
twice_not true = cc
twice_not false = cc

pub returns-clause-lost : goal.returns-clause-lost
returns-clause-lost c = λ q.
    let signed = c.args.signed.now in
    let old = c.args.lost.now.entries in
    let new = c.take_loss.new.lost.entries in
    let low = le-leb signed.number c.args.bound c.if-signed-bound.false in
    let own = nat_le signed.number c.args.bound && signed.plus in
    subst (λ taken. TakesLoss (is_row q signed.row) own taken (loss_count q old) (loss_count q new)) (sym (twice_not c.take_loss.result))
    (takes_of_own (is_row q signed.row) own c.take_loss.result (loss_count q old) (loss_count q new)
    (λ i. low i && c.if-not-signed.false i)
    (λ s t. ap (λ x. loss_count x old) (row_is q signed.row s) ∙ c.take_loss.ensures.none t) (c.take_loss.ensures.counts q))
