use Rattle.std.proofs.Common.{◌∙◌, ap, rules, subst, sym}
use Rattle.std.specs.Prelude.{nat_eq}
use Rattle.std.specs.List.{list_any}
use Rattle.std.specs.List.Sorted.{IsStrictlySortedBy}
use Rattle.std.specs.Ordering.{nat_cmp}
use Rattle.std.specs.BTreeSet.{IsFromIterResult}
use Rattle.std.proofs.lemmas.Result.{IfOk-weaker}
use Rattle.std.proofs.lemmas.Iterator.{items_from_collect}
use Rattle.std.proofs.lemmas.Iterator.Consumers.{YieldsList-from_rest}
use Rattle.std.proofs.lemmas.Iterator.Adapters.{YieldsList-from_vec, fact_from_collect}
use Rattle.ncq_book.proofs.WatchLaws.{set_of}
use Rattle.ncq_book.proofs.watchers.in_order.Goals as goal

pub returns-clause-same : goal.returns-clause-same
returns-clause-same c =
    let numbers = c.args.numbers.items in
    let made = fact_from_collect (λ xs s. IsFromIterResult nat_cmp xs s) c.collect.result c.collect.ensures.ran (YieldsList-from_vec {s = c.into_iter.result} numbers (search rules) (search rules)) in
    let got = rw c.in_ok-set.was at made in
    IfOk-weaker c.collect-2.result _ _
    (λ v h number. ap (list_any (nat_eq number)) h ∙ set_of numbers c.in_ok-set.set.keys got.0 number)
    (items_from_collect c.collect-2.result c.collect-2.ensures.ran (YieldsList-from_rest c.in_ok-set.set.keys c.into_iter-2.ensures.into_iter_gives.0))

pub returns-clause-rising : goal.returns-clause-rising
returns-clause-rising c =
    IfOk-weaker c.collect-2.result _ _
    (λ v h. subst (IsStrictlySortedBy nat_cmp) (sym h) c.into_iter-2.ensures.into_iter_gives.4)
    (items_from_collect c.collect-2.result c.collect-2.ensures.ran (YieldsList-from_rest c.in_ok-set.set.keys c.into_iter-2.ensures.into_iter_gives.0))
