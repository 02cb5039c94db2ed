use Rattle.std.proofs.Common.{◌++◌, ap, ◌∙◌, sym}
use Rattle.ncq_bag.specs.Bags.{difference_of, signed}
use Rattle.ncq_callback.proofs.FewLaws.{one_is}
use Rattle.ncq_callback.proofs.row_bag.one_difference.Goals as goal

pub returns : goal.returns
returns c =
    c.in_ok-push_to.ensures
    ∙ ap (λ ds. ds ++ difference_of (c.args.last.answer, signed c.args.last.gain c.args.last.times)) c.in_ok-out.ensures
    ∙ sym (one_is c.args.last.answer c.args.last.times c.args.last.gain)
