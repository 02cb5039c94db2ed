use Rattle.std.proofs.Common.{◌≡◌, Some, refl, sym, subst, arith}
use Rattle.std.specs.Prelude.{slice_get}
use Rattle.ncq_midfile.specs.Shown.{rows_below}
use Rattle.ncq_midfile.specs.declared.signed.SignedRow.{SignedRow}
use Rattle.ncq_shelf.specs.Keyed.{IsHeld}
use Rattle.ncq_shelf.proofs.KeyLaws.{more_on, held_more, all_step, all_end, held_at, row_at_place}
use Rattle.ncq_shelf.proofs.keys.note_places.Goals as goal

pub returns-in_err-note_slot-clause-more : goal.returns-in_err-note_slot-clause-more
returns-in_err-note_slot-clause-more c = more_on c.args.holders.now c.loop-place.holders c.note_slot.new.holders c.loop-place.invariant.more c.note_slot.ensures.more

pub loop-place-preserved : goal.loop-place-preserved
loop-place-preserved c = record {
  more = more_on c.args.holders.now c.loop-place.holders c.note_slot.new.holders c.loop-place.invariant.more c.note_slot.ensures.more;
  done = all_step (λ place. (r : SignedRow) → slice_get (rows_below c.args.content.now) place ≡ Some r → IsHeld c.loop-place.holders c.args.number c.args.slot r.row)
      (λ place. (r : SignedRow) → slice_get (rows_below c.args.content.now) place ≡ Some r → IsHeld c.note_slot.new.holders c.args.number c.args.slot r.row) c.args.places.now c.loop-place.place-index 0 _ refl c.loop-place-test.true
      (λ place h r at. held_more c.loop-place.holders c.note_slot.new.holders c.note_slot.ensures.more c.args.number c.args.slot r.row (h r at)) c.loop-place.invariant.done
      (λ r at. subst (IsHeld c.note_slot.new.holders c.args.number c.args.slot) (sym (row_at_place (rows_below c.args.content.now) _ c.row.result.now c.row.ensures r at)) c.in_ok-note_slot.ensures.ok);
}

pub returns-clause-ok : goal.returns-clause-ok
returns-clause-ok c =
    let none = c.loop-place-test.false in
    held_at (λ (r : SignedRow). IsHeld c.loop-place.holders c.args.number c.args.slot r.row) (rows_below c.args.content.now) c.args.places.now
    (all_end (λ place. (r : SignedRow) → slice_get (rows_below c.args.content.now) place ≡ Some r → IsHeld c.loop-place.holders c.args.number c.args.slot r.row) c.args.places.now c.loop-place.place-index (omega arith) c.loop-place.invariant.done)
