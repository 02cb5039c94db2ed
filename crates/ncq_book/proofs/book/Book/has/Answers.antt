use Rattle.std.proofs.Common.{◌∙◌, ap}
use Rattle.std.specs.List.{find}
use Rattle.std.specs.Option.{is_some}
use Rattle.ncq_book.specs.declared.subscription.Subscription.{Subscription}
use Rattle.ncq_book.specs.Books.{is_named}
use Rattle.ncq_book.proofs.Lists.{is_some_map, some_found}
use Rattle.ncq_book.proofs.book.Book.has.Goals as goal

pub returns : goal.returns
returns c =
    let named = is_named c.args.name.now in
    let subscriptions = c.args.self.now.subscriptions in
    c.is_some.ensures ∙ ap is_some c.find.ensures ∙ is_some_map (λ (m : Subscription). m.install) (find named subscriptions) ∙ some_found named subscriptions
