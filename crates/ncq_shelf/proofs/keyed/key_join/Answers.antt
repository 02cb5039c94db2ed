use Rattle.ncq_shelf.proofs.Arms.{some_of_join, file_of_left, file_of_right}
use Rattle.ncq_shelf.proofs.Turns.{ok_more}
use Rattle.ncq_shelf.proofs.KeyedAdded.{join_found}
use Rattle.ncq_shelf.proofs.keyed.key_join.Goals as goal

pub sides_of-left-requires : goal.sides_of-left-requires
sides_of-left-requires c = some_of_join c.args.groups.now.entries c.args.files.now.entries c.requires.one c.args.expr.now c.args.inputs c.requires.inputs c.in-Join.left c.in-Join.right c.in-Join.pairs c.in-Join.is

pub key_pairs-requires-clause-left : goal.key_pairs-requires-clause-left
key_pairs-requires-clause-left c =
    file_of_left c.args.groups.now.entries c.args.files.now.entries c.requires.one c.args.expr.now c.args.inputs c.requires.inputs c.in-Join.left c.in-Join.right c.in-Join.pairs c.in-Join.is c.sides_of-left.result.0 c.sides_of-left.result.1 c.sides_of-left.ensures

pub key_pairs-requires-clause-right : goal.key_pairs-requires-clause-right
key_pairs-requires-clause-right c =
    file_of_right c.args.groups.now.entries c.args.files.now.entries c.requires.one c.args.expr.now c.args.inputs c.requires.inputs c.in-Join.left c.in-Join.right c.in-Join.pairs c.in-Join.is c.sides_of-left.result.0 c.sides_of-left.result.1 c.sides_of-left.ensures

pub returns-in-Join-clause-ok : goal.returns-in-Join-clause-ok
returns-in-Join-clause-ok c =
    ok_more c.key_pairs.result (join_found c.args.groups.now.entries c.key_pairs.new.keys c.args.number c.args.expr.now c.args.inputs c.in-Join.left c.in-Join.right c.in-Join.pairs c.in-Join.is c.sides_of-left.result.0 c.sides_of-left.result.1 c.sides_of-left.ensures) c.key_pairs.ensures.ok
