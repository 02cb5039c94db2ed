use Rattle.std.proofs.Common.{◌≡◌, ◌<◌, ◌∷◌, [], length, ap, sym, subst, arith}
use Rattle.std.specs.Prelude.{IfSome}
use Rattle.ncq_base.specs.Lines.{lines_in}
use Rattle.ncq_flat.specs.Insides.{opens}
use Rattle.ncq_row.specs.Embeddings.{Row, Rows}
use Rattle.ncq_row.specs.ByNames.{child_rows, named_rows}
use Rattle.ncq_row.proofs.ChildLaws.{found_shorter, behind_shorter, all_left, next_left, none_left, AreLeft}
use Rattle.ncq_row.proofs.by_names.found_named.Goals as goal

pub loop-child-init : goal.loop-child-init
loop-child-init c = λ e more is.
    subst (λ (rows : Rows). AreLeft (opens c.args.name.now) c.args.valued (lines_in c.args.inside.now) rows (named_rows c.args.name.now c.args.valued e)) (sym c.new-all.ensures)
    (all_left c.args.name.now c.args.valued e more (lines_in c.args.inside.now) is)

pub loop-child-smaller : goal.loop-child-smaller
loop-child-smaller c =
    let a : length (lines_in c.in-Some.child.now) < length (lines_in c.loop-child.rest.now) = found_shorter (opens c.args.name.now) 0 (lines_in c.loop-child.rest.now) (lines_in c.in-Some.child.now) _ c.in-Some.ensures in
    let b = behind_shorter 0 (lines_in c.in-Some.child.now) in
    omega (arith, a, b, ap length c.behind-rest.ensures)

pub loop-child-preserved : goal.loop-child-preserved
loop-child-preserved c = λ e more is.
    next_left (opens c.args.name.now) c.args.valued (lines_in c.loop-child.rest.now) (lines_in c.in-Some.child.now) (lines_in c.behind-rest.result.now)
    c.loop-child.all c.add_row.new.all (named_rows c.args.name.now c.args.valued e) c.in-Some-2.row
    c.in-Some.ensures c.behind-rest.ensures
    (λ child behind h. subst (λ found. IfSome found (λ (row : Row). row ∷ [] ≡ child_rows c.args.valued child)) c.in-Some-2.is (c.in_ok-row.ensures child behind h))
    c.in_ok-add_row-in-Some-2.ensures (c.loop-child.invariant e more is)

pub returns : goal.returns
returns c = λ e more is.
    none_left (opens c.args.name.now) c.args.valued (lines_in c.loop-child.rest.now) c.loop-child.all (named_rows c.args.name.now c.args.valued e)
    c.in_default.ensures (c.loop-child.invariant e more is)
