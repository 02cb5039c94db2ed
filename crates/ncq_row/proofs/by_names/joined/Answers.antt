use Rattle.std.proofs.Common.{◌≡◌, length, ap, sym, ◌∙◌, arith}
use Rattle.std.specs.Vec.Iter.{into_iter_items}
use Rattle.ncq_row.proofs.ByNamesLaws.{first_of_each, next_of_each, all_of_each}
use Rattle.ncq_row.proofs.by_names.joined.Goals as goal

pub loop-found-init : goal.loop-found-init
loop-found-init c =
    let cut = sym c.into_iter-others.ensures.rest ∙ c.in-Some.ensures.cases.0 in
    record {
      rows = first_of_each c.args.each.items (into_iter_items c.next.new.self) c.in-Some.first cut;
      left = omega (arith, ap length cut, c.in-Some.ensures.cases.1, c.into_iter-others.ensures.len);
    }

pub loop-found-preserved : goal.loop-found-preserved
loop-found-preserved c =
    let cut = c.in-Some-next.ensures.cases.0 in
    record {
      rows = next_of_each (into_iter_items c.loop-found.others) (into_iter_items c.next-in-loop-found.new.self) c.loop-found.rows c.in-Some-next.found c.in_ok-rows.rows _
          cut c.in_ok-rows.ensures c.loop-found.invariant.rows;
      left = omega (arith, ap length cut, c.in-Some-next.ensures.cases.1, c.loop-found.invariant.left);
    }

pub returns : goal.returns
returns c =
    let none : length (into_iter_items c.loop-found.others) ≡ 0 = omega (arith, c.in_default-next.ensures.cases.0, c.loop-found.invariant.left) in
    all_of_each (into_iter_items c.loop-found.others) c.loop-found.rows _ none c.loop-found.invariant.rows
