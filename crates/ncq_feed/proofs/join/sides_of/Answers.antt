use Rattle.std.proofs.Common.{sym, ◌∙◌, subst}
use Rattle.ncq_shelf.specs.Inputs.{AreInputs}
use Rattle.ncq_shelf.specs.declared.inputs.Inputs.TheVariants.{Nothing, One, Two}
use Rattle.ncq_feed.proofs.JoinLaws.{sides_are}
use Rattle.ncq_feed.proofs.join.sides_of.Goals as goal

pub unreachable-requires : goal.unreachable-requires
unreachable-requires c =
    let r = c.requires in
    sides_are c.args.shelf.now c.args.at r c.in-Join.left c.in-Join.right c.in-Join.pairs (sym (c.expr.ensures r.file r.at) ∙ c.in-Join.is) Nothing
    (subst (AreInputs c.args.shelf.now r.file.expr) c.in-Nothing.is (c.inputs.ensures r.file r.at))

pub returns-in-Two-clause-some : goal.returns-in-Two-clause-some
returns-in-Two-clause-some c =
    let r = c.requires in
    sides_are c.args.shelf.now c.args.at r c.in-Join.left c.in-Join.right c.in-Join.pairs (sym (c.expr.ensures r.file r.at) ∙ c.in-Join.is) (Two c.in-Two.left c.in-Two.right)
    (subst (AreInputs c.args.shelf.now r.file.expr) c.in-Two.is (c.inputs.ensures r.file r.at))

pub returns-in-One-clause-some : goal.returns-in-One-clause-some
returns-in-One-clause-some c =
    let r = c.requires in
    sides_are c.args.shelf.now c.args.at r c.in-Join.left c.in-Join.right c.in-Join.pairs (sym (c.expr.ensures r.file r.at) ∙ c.in-Join.is) (One c.in-One.both)
    (subst (AreInputs c.args.shelf.now r.file.expr) c.in-One.is (c.inputs.ensures r.file r.at))
