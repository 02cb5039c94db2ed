use Rattle.std.proofs.Common.{refl, sym, subst, arith}
use Rattle.ncq_shelf.specs.Readers.{IsAmong}
use Rattle.ncq_shelf.specs.Met.{IsSlotMet}
use Rattle.ncq_shelf.proofs.KeyLaws.{all_step, all_end, all_among}
use Rattle.ncq_shelf.proofs.MetLaws.{gathers_on, slot_more}
use Rattle.ncq_shelf.proofs.met.add_row.Goals as goal

pub loop-slot-preserved : goal.loop-slot-preserved
loop-slot-preserved c =
    let files = c.args.files.now.entries in
    let old = c.loop-slot.met.keys in
    let new = c.add_slot.new.met.keys in
    record {
      gathers = gathers_on files c.args.input c.args.met.now.keys old new c.loop-slot.invariant.gathers c.add_slot.ensures.gathers;
      done = all_step (IsSlotMet files c.args.keys.now c.args.input old c.args.row.now) (IsSlotMet files c.args.keys.now c.args.input new c.args.row.now) c.slots-slot-items.result.now c.loop-slot.slot-index 0 _ refl c.loop-slot-test.true
          (slot_more files c.args.input old new c.add_slot.ensures.gathers c.args.keys.now c.args.row.now) c.loop-slot.invariant.done c.in_ok-add_slot.ensures.ok;
    }

pub returns-clause-ok : goal.returns-clause-ok
returns-clause-ok c slot key =
    let none = c.loop-slot-test.false in
    let met = IsSlotMet c.args.files.now.entries c.args.keys.now c.args.input c.loop-slot.met.keys c.args.row.now in
    all_among met c.slots-slot-items.result.now (all_end met c.slots-slot-items.result.now c.loop-slot.slot-index (omega arith) c.loop-slot.invariant.done) slot
    (subst (IsAmong slot) (sym c.slots-slot-items.ensures) key)
