use Rattle.ncq_group.proofs.table.GroupTable.groups.Goals as goal

pub lines-requires : goal.lines-requires
lines-requires c = record { grounded = c.self.invariant.facts.grounded; counted = c.self.invariant.counted }
