use Rattle.ncq_shelf.proofs.KeyLaws.{note_more, note_held}
use Rattle.ncq_shelf.proofs.keys.note_slot.Goals as goal

pub returns-clause-more : goal.returns-clause-more
returns-clause-more c = note_more c.note.result c.args.holders.now c.note.new.self c.atom-atom.result.now c.args.number c.note.ensures.ok c.note.ensures.err

pub returns-clause-ok : goal.returns-clause-ok
returns-clause-ok c = note_held c.note.result c.args.holders.now c.note.new.self c.atom-atom.result.now c.args.number c.args.slot c.args.row.now c.atom-atom.ensures c.note.ensures.ok
