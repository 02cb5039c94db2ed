use Rattle.std.proofs.Common.{rules, ◌≡◌, ◌∷◌, [], ◌++◌, ◌∙◌, ap, subst, sym}
use Rattle.std.specs.List.{AllByRecursion}
use Rattle.std.specs.Vec.Iter.{into_iter_items}
use Rattle.ncq_feed.specs.Runs.{IsFor, news_in}
use Rattle.ncq_feed.proofs.GrowthLaws.{given_more}
use Rattle.ncq_feed.proofs.append.append_all.Goals as goal

pub loop-row-preserved : goal.loop-row-preserved
loop-row-preserved g c =
    let e : into_iter_items c.loop-row.row-iterator ≡ c.in-Some.row ∷ into_iter_items c.next.new.self = search rules in
    let given = c.in_ok-append.ensures.given in
    record {
      under = c.append.ensures.under;
      left = (subst (AllByRecursion (IsFor g.run c.args.at)) e c.loop-row.invariant.left).1;
      own = given_more g.run c.args.at c.args.rows (c.in-Some.row ∷ []) (into_iter_items c.next.new.self) c.args.shelf.now c.loop-row.shelf c.append.new.shelf
          (ap (λ xs. news_in g.run.store.changes c.loop-row.shelf c.args.at ++ xs) (sym e) ∙ c.loop-row.invariant.own) given;
      others = λ other differs. given.others other differs ∙ c.loop-row.invariant.others other differs;
    }
