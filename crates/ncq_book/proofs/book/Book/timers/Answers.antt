use Rattle.std.proofs.Common.{◌∙◌, ap}
use Rattle.ncq_book.specs.Books.{timers_of}
use Rattle.ncq_book.proofs.Lists.{if_ok_both}
use Rattle.ncq_book.proofs.KeptLaws.{timers_are}
use Rattle.ncq_book.proofs.book.Book.timers.Goals as goal

pub returns : goal.returns
returns c =
    if_ok_both c.of.result (λ installs are rising.
    timers_are _ _ c.self.inside.finders c.self.invariant.kept c.args.files.now installs rising are
    ∙ ap (λ b. timers_of c.args.files.now b.subscriptions) c.self.view_is) c.of.ensures.watchers c.of.ensures.rising
