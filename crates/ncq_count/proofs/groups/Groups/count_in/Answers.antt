use Rattle.std.specs.FinMap.{remove}
use Rattle.std.proofs.Common.{sym, subst}
use Rattle.ncq_count.specs.Counted.{AreCounted}
use Rattle.ncq_count.proofs.CountLaws.{counted_come}
use Rattle.ncq_count.proofs.groups.Groups.count_in.Goals as goal

pub returns-clause-ok : goal.returns-clause-ok
returns-clause-ok c =
    let files = c.args.shelf.now in
    let idle = c.requires.idle in
    let counted = subst (AreCounted (remove files c.args.number)) (sym c.self.view_is) c.requires.counted in
    counted_come files c.args.number idle c.requires.grounded c.key_at-key.result (c.key_at-key.ensures idle.file idle.at) c.self.inside.counts.entries counted c.gain.new.counts.entries c.in_ok-gain.ensures.ok
