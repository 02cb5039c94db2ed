use Rattle.std.proofs.Common.{◌∙◌, ap}
use Rattle.ncq_book.specs.Books.{subscriptions_of}
use Rattle.ncq_book.proofs.BookLaws.{ask_by_question, listed_are}
use Rattle.ncq_book.proofs.Lists.{if_ok_leads}
use Rattle.ncq_book.proofs.book.Book.listed.Goals as goal

pub returns-clause-listed : goal.returns-clause-listed
returns-clause-listed c =
    if_ok_leads c.list_of.result
    (λ list is. listed_are c.self.inside.subscriptions.entries c.self.inside.finders c.self.invariant c.args.installs.now list.items is
    ∙ ap (λ b. subscriptions_of c.args.installs.now b.subscriptions) c.self.view_is) c.list_of.ensures

pub returns-clause-alike : goal.returns-clause-alike
returns-clause-alike c =
    if_ok_leads c.list_of.result
    (λ list is. ask_by_question c.self.inside.subscriptions.entries c.self.inside.finders c.self.invariant c.args.installs.now list.items is) c.list_of.ensures
