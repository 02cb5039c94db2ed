use Rattle.std.proofs.Common.{refl, sym}
use Rattle.std.proofs.lemmas.Result.{err_from_is_err_and}
use Rattle.ncq_xmlql.specs.ItemReading.{items_at, next_item_at, continues}
use Rattle.ncq_xmlql.proofs.Loops.{many_go_on, many_fail, many_end}
use Rattle.ncq_xmlql.proofs.ItemLaws.{next_shorter}
use Rattle.ncq_xmlql.proofs.items.items_at.Goals as goal

pub returns-in_err-item : goal.returns-in_err-item
returns-in_err-item c =
    let p = err_from_is_err_and c.from_residual-in_err-item.result c.from_residual-in_err-item.ensures.1 in
    rw (p.1, p.2) (many_fail continues (next_item_at c.args.depth) refl (next_shorter c.args.depth) c.in_err-item.field-0.0 c.items.items c.items.rest.now (items_at c.args.depth c.args.tokens.now) (sym c.items-test.ensures) c.in_err-item.ensures c.items.invariant)

pub items-smaller : goal.items-smaller
items-smaller c = next_shorter c.args.depth c.items.rest.now (c.in_ok-item.item, c.in_ok-item.next.now) c.in_ok-item.ensures

pub items-preserved : goal.items-preserved
items-preserved c =
    rw c.in_ok-push-2.ensures.ok (many_go_on continues (next_item_at c.args.depth) refl (next_shorter c.args.depth) c.items.items c.items.rest.now c.in_ok-item.item c.in_ok-item.next.now (items_at c.args.depth c.args.tokens.now) (sym c.items-test.ensures) c.in_ok-item.ensures c.items.invariant)

pub returns : goal.returns
returns c = many_end continues (next_item_at c.args.depth) c.items.items c.items.rest.now (items_at c.args.depth c.args.tokens.now) (sym c.items-test.ensures) c.items.invariant
