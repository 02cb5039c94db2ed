use Rattle.std.proofs.Common.{◌∙◌, ap}
use Rattle.std.specs.Prelude.{None, Some}
use Rattle.std.specs.Option.{option_copied}
use Rattle.ncq_book.specs.Books.{subscription_of}
use Rattle.ncq_book.proofs.QuestionLaws.{found_placed}
use Rattle.ncq_book.proofs.SubscriptionLaws.{get_is}
use Rattle.ncq_book.proofs.book.Book.get.Goals as goal

pub returns : goal.returns
returns c =
    ap Some c.get-2.ensures
    ∙ found_placed c.args.install c.self.inside.subscriptions.entries (Some c.in_ok-held.held.now) c.in_ok-held.ensures.value
    ∙ get_is _ _ c.args.install c.self.invariant.kept.numbered
    ∙ ap (λ b. subscription_of c.args.install b.subscriptions) c.self.view_is

pub returns-in_err-held : goal.returns-in_err-held
returns-in_err-held c =
    ap option_copied c.from_residual.ensures
    ∙ found_placed c.args.install c.self.inside.subscriptions.entries None c.in_err-held.ensures.value
    ∙ get_is _ _ c.args.install c.self.invariant.kept.numbered
    ∙ ap (λ b. subscription_of c.args.install b.subscriptions) c.self.view_is
