use Rattle.ncq_midfile.proofs.whole.grow_whole.Goals as goal

pub returns-in_default : goal.returns-in_default
returns-in_default c = c.open_whole.ensures c.args.rows.now c.requires
