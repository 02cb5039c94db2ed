use Rattle.ncq_pyx.proofs.JoiningLaws.{block_joined, joined_twice}
use Rattle.ncq_pyx.proofs.laws.blocks_are_joined.Goals as goal

pub returns : goal.returns
returns c = record { one = block_joined; two = joined_twice }
