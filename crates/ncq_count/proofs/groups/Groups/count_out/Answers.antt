use Rattle.std.proofs.Common.{sym, subst}
use Rattle.ncq_count.specs.Counted.{AreCounted}
use Rattle.ncq_count.proofs.CountLaws.{some_counted, counted_removed}
use Rattle.ncq_count.proofs.groups.Groups.count_out.Goals as goal

pub lose-requires : goal.lose-requires
lose-requires c =
    let files = c.args.shelf.now in
    let idle = c.requires.idle in
    let counted = subst (AreCounted files) (sym c.self.view_is) c.requires.counted in
    some_counted files c.args.number idle c.requires.grounded c.key_at-key.result (c.key_at-key.ensures idle.file idle.at) c.self.inside.counts.entries counted

pub returns : goal.returns
returns c =
    let files = c.args.shelf.now in
    let idle = c.requires.idle in
    let counted = subst (AreCounted files) (sym c.self.view_is) c.requires.counted in
    counted_removed files c.args.number idle c.requires.grounded c.key_at-key.result (c.key_at-key.ensures idle.file idle.at) c.self.inside.counts.entries counted c.lose.new.counts.entries c.lose.ensures
