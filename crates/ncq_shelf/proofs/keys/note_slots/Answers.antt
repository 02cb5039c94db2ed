use Rattle.std.proofs.Common.{refl}
use Rattle.ncq_midfile.specs.Shown.{shown}
use Rattle.ncq_shelf.specs.Keyed.{AreHeld}
use Rattle.ncq_shelf.proofs.KeyLaws.{are_held_more, all_step}
use Rattle.ncq_shelf.proofs.keys.note_slots.Goals as goal

pub loop-slot-preserved : goal.loop-slot-preserved
loop-slot-preserved c =
    let rows = (shown c.args.content.now).rows in
    all_step (λ slot. AreHeld c.loop-slot.holders c.args.number slot rows) (λ slot. AreHeld c.note_content.new.holders c.args.number slot rows) c.args.slots.now c.loop-slot.slot-index 0 _ refl c.loop-slot-test.true
    (λ slot. are_held_more c.loop-slot.holders c.note_content.new.holders c.note_content.ensures.more c.args.number slot rows) c.loop-slot.invariant c.in_ok-note_content.ensures.ok
