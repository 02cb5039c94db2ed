use Rattle.ncq_midfile.proofs.file.MidFile.drop_indexes.Goals as goal

pub invariant_of-self : goal.invariant_of-self
invariant_of-self c = record { file = c.self.invariant.file; covers = c.lose_indexes.ensures _ c.self.invariant.covers }
