use Rattle.std.proofs.Common.{◌≡◌, ◌<◌, Some, subst, sym, ap, ◌∙◌}
use Rattle.std.specs.FinMap.{get}
use Rattle.std.specs.List.{AllByRecursion}
use Rattle.ncq_plan.specs.Exprs.{expr_width}
use Rattle.ncq_delta.specs.Joins.{left_slots, right_slots}
use Rattle.ncq_shelf.specs.Contents.{AreWide}
use Rattle.ncq_shelf.specs.Stands.{IsThere}
use Rattle.ncq_feed.proofs.GrowthLaws.{stands_up}
use Rattle.ncq_feed.proofs.JoinLaws.{join_file, lefts_fit, rights_fit, left_there, right_there}
use Rattle.ncq_feed.proofs.join.index_sides.Goals as goal

pub pairs_of-requires : goal.pairs_of-requires
pairs_of-requires g c = join_file g.run c.args.shelf.now c.requires.0 c.args.at c.args.left c.args.right c.requires.1

pub pairs_of-requires-2 : goal.pairs_of-requires-2
pairs_of-requires-2 g c = join_file g.run c.args.shelf.now c.requires.0 c.args.at c.args.left c.args.right c.requires.1

pub ensure_index-requires : goal.ensure_index-requires
ensure_index-requires g c =
    let j = c.requires.1 in
    let s = stands_up g.run c.args.shelf.now c.requires.0 _ c.args.at j.stands in
    let e : c.as_slice.result.now ≡ left_slots j.pairs = c.as_slice.ensures ∙ c.in_ok-lefts.ensures ∙ ap left_slots (c.pairs_of.ensures j.first j.second j.pairs s) in
    record {
      there = left_there g.run c.args.shelf.now c.requires.0 c.args.at c.args.left c.args.right j;
      wide = c.requires.0.wide;
      slots = λ file here. subst (λ slots. AllByRecursion (λ slot. slot < expr_width file.expr) slots) (sym e) (lefts_fit g.run c.args.shelf.now c.requires.0 c.args.at c.args.left c.args.right j file here);
    }

pub ensure_index-requires-2 : goal.ensure_index-requires-2
ensure_index-requires-2 g c =
    let j = c.requires.1 in
    let s = stands_up g.run c.args.shelf.now c.requires.0 _ c.args.at j.stands in
    let e : c.as_slice-2.result.now ≡ right_slots j.pairs = c.as_slice-2.ensures ∙ c.in_ok-rights.ensures ∙ ap right_slots (c.pairs_of-2.ensures j.first j.second j.pairs s) in
    record {
      there = subst (λ files. IsThere files c.args.right) (sym c.ensure_index.ensures) (right_there g.run c.args.shelf.now c.requires.0 c.args.at c.args.left c.args.right j);
      wide = subst AreWide (sym c.ensure_index.ensures) c.requires.0.wide;
      slots = λ file here. subst (λ slots. AllByRecursion (λ slot. slot < expr_width file.expr) slots) (sym e)
          (rights_fit g.run c.args.shelf.now c.requires.0 c.args.at c.args.left c.args.right j file (subst (λ files. get files c.args.right ≡ Some file) c.ensure_index.ensures here));
    }
