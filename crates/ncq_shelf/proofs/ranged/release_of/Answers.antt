use Rattle.std.proofs.Common.{ap}
use Rattle.ncq_shelf.specs.Groups.{group_of}
use Rattle.ncq_shelf.proofs.ranged.release_of.Goals as goal

pub release-requires-clause-there : goal.release-requires-clause-there
release-requires-clause-there c = c.requires.there c.in-Ranged.group (ap group_of c.in-Ranged.is)
