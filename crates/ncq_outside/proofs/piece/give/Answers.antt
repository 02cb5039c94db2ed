use Rattle.std.proofs.Common.{◌≡◌, length, drop, take, arith}
use Rattle.std.proofs.lemmas.Grind.{common_steps}
use Rattle.ncq_outside.proofs.Pieces.{next_piece}
use Rattle.ncq_outside.proofs.piece.give.Goals as goal

pub returns-clause-bytes : goal.returns-clause-bytes
returns-clause-bytes c =
    let copied : c.copy_from_slice.new.self ≡ take c.min-count.result (drop c.args.at c.args.from.now) = grind (arith, common_steps) in
    let long : length c.copy_from_slice.new.self ≡ c.min-count.result = grind (arith, common_steps) in
    next_piece c.args.from.now _ _ c.args.at c.min-count.result copied long
