use Rattle.std.proofs.Common.{refl}
use Rattle.ncq_shelf.specs.Keyed.{IsHeld}
use Rattle.ncq_shelf.proofs.KeyLaws.{more_on, held_more, all_step}
use Rattle.ncq_shelf.proofs.keys.note_at.Goals as goal

pub returns-in_err-note_slot-clause-more : goal.returns-in_err-note_slot-clause-more
returns-in_err-note_slot-clause-more c = more_on c.args.holders.now c.loop-slot.holders c.note_slot.new.holders c.loop-slot.invariant.more c.note_slot.ensures.more

pub loop-slot-preserved : goal.loop-slot-preserved
loop-slot-preserved c = record {
  more = more_on c.args.holders.now c.loop-slot.holders c.note_slot.new.holders c.loop-slot.invariant.more c.note_slot.ensures.more;
  done = all_step (λ slot. IsHeld c.loop-slot.holders c.args.number slot c.args.row.now) (λ slot. IsHeld c.note_slot.new.holders c.args.number slot c.args.row.now) c.args.slots.now c.loop-slot.slot-index 0 _ refl c.loop-slot-test.true
      (λ slot. held_more c.loop-slot.holders c.note_slot.new.holders c.note_slot.ensures.more c.args.number slot c.args.row.now) c.loop-slot.invariant.done c.in_ok-note_slot.ensures.ok;
}
