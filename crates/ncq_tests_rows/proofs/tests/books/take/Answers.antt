use Rattle.std.proofs.Common.{◌<◌, sym, subst, not}
use Rattle.std.specs.List.{AllByRecursion}
use Rattle.ncq_book.specs.Books.{BookState, is_of}
use Rattle.ncq_book.proofs.Lists.{each_filtered}
use Rattle.ncq_tests_rows.proofs.tests.books.take.Goals as goal

pub returns : goal.returns
returns c =
    subst (λ (b : BookState). AllByRecursion (λ m. m.install < 4) b.subscriptions) (sym c.take.ensures.subscriptions)
    (each_filtered (λ m. m.install < 4) (λ m. not (is_of c.in-Some.install m)) c.args.book.now.subscriptions c.requires)
