use Rattle.std.proofs.Common.{◌<◌, sym, subst, not}
use Rattle.std.specs.List.{AllByRecursion}
use Rattle.ncq_book.specs.Books.{BookState, is_of}
use Rattle.ncq_book.proofs.Lists.{each_filtered}
use Rattle.ncq_tests_rows.proofs.tests.books.renew.Goals as goal

pub put-requires : goal.put-requires
put-requires c =
    subst (λ (b : BookState). AllByRecursion (λ m. m.install < 6) b.subscriptions) (sym c.take-taken.ensures.subscriptions)
    (each_filtered (λ m. m.install < 6) (λ m. not (is_of 4 m)) c.args.book.now.subscriptions c.requires)
