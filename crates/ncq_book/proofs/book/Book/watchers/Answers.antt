use Rattle.std.proofs.Common.{◌∙◌, ap}
use Rattle.ncq_book.specs.Books.{watchers_of}
use Rattle.ncq_book.proofs.Lists.{if_ok_both}
use Rattle.ncq_book.proofs.KeptLaws.{watchers_are}
use Rattle.ncq_book.proofs.book.Book.watchers.Goals as goal

pub returns : goal.returns
returns c =
    if_ok_both c.of.result (λ installs are rising.
    watchers_are _ _ c.self.inside.finders c.self.invariant.kept c.args.files.now installs rising are
    ∙ ap (λ b. watchers_of c.args.files.now b.subscriptions) c.self.view_is) c.of.ensures.watchers c.of.ensures.rising
