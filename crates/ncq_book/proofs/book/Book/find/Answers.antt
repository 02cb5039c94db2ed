use Rattle.std.proofs.Common.{◌∙◌, ap}
use Rattle.std.specs.List.{find}
use Rattle.std.specs.Option.{option_map}
use Rattle.ncq_book.specs.Books.{is_named}
use Rattle.ncq_book.proofs.book.Book.find.Goals as goal

pub returns : goal.returns
returns c =
    c.find.ensures
    ∙ c.self.invariant.kept.named c.args.name.now
    ∙ ap (λ b. option_map (λ m. m.install) (find (is_named c.args.name.now) b.subscriptions)) c.self.view_is
