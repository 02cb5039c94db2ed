use Rattle.std.proofs.Common.{rules, [], ◌∷◌, ◌++◌, refl, sym, ◌∙◌, subst, arith}
use Rattle.ncq_plan.specs.declared.expr.Expr.{the_lemmas}
use Rattle.ncq_plan.specs.declared.expr.Expr.TheVariants.{Join}
use Rattle.ncq_change.specs.Stores.{world_in}
use Rattle.ncq_shelf.specs.Stands.{Stands}
use Rattle.ncq_group.specs.Grown.{IsGrown}
use Rattle.ncq_group.proofs.Grown.{unread_hit, unread_two, grown_add, stands_added, unread_add, stays_mid}
use Rattle.ncq_group.proofs.Made.{made_whole, kept_whole, kept_both, made_within, made_then}
use Rattle.ncq_group.proofs.Places.{equal_one, range_one, join_two, grown_one, inputs_one, grown_left, grown_two, inputs_two, parts_one, parts_left, parts_right, room_in_one, room_in_left, room_in_right}
use Rattle.ncq_group.proofs.place.+placing.Goals as goal

pub place-returns-in-Some-clause-unread : goal.place-returns-in-Some-clause-unread
place-returns-in-Some-clause-unread g t c = unread_hit c.args.expr.now c.args.filed.now.next c.place_inputs.new.filed.shelf c.in-Some.number c.in-Some.ensures c.in_ok-inputs.ensures.unread

pub place-returns-in_err-number-clause-cost : goal.place-returns-in_err-number-clause-cost
place-returns-in_err-number-clause-cost g t c =
    let i = c.in_ok-inputs.ensures.cost in
    (i.0 ++ c.args.expr.now ∷ [], made_whole (world_in c.args.store.now) c.args.expr.now c.args.filed.now.shelf c.place_inputs.new.filed.shelf i.0 c.args.steps.now c.place_inputs.new.steps c.put.new.steps c.place_inputs.ensures.grown.stays i.1 i.2 c.in_default.ensures c.put.ensures.cost, search rules)

pub place-returns-clause-grown : goal.place-returns-clause-grown
place-returns-clause-grown g t c =
    let p = c.in_ok-number.ensures.ok in
    subst (λ n. IsGrown c.args.expr.now c.args.store.now.changes (world_in c.args.store.now) c.args.filed.now.shelf c.args.filed.now.next c.put.new.filed.shelf n) (sym p.next)
    (grown_add c.args.store.now.changes (world_in c.args.store.now) c.args.expr.now c.args.filed.now.shelf c.args.filed.now.next c.place_inputs.new.filed.shelf c.place_inputs.new.filed.next c.put.new.filed.shelf p.added.content p.added.files c.place_inputs.ensures.grown c.in_default.ensures
    c.in_ok-inputs.inputs c.in_ok-inputs.ensures.inputs c.requires.formed p.added.wide p.added.up_to p.added.holds p.added.base c.place_inputs.ensures.room)

pub place-returns-clause-stands : goal.place-returns-clause-stands
place-returns-clause-stands g t c =
    let p = c.in_ok-number.ensures.ok in
    subst (λ n. Stands c.put.new.filed.shelf c.args.expr.now n) (sym p.number)
    (stands_added c.args.store.now.changes (world_in c.args.store.now) c.args.expr.now c.args.filed.now.shelf c.args.filed.now.next c.place_inputs.new.filed.shelf c.place_inputs.new.filed.next c.put.new.filed.shelf p.added.content p.added.files c.place_inputs.ensures.grown c.in_default.ensures)

pub place-returns-clause-unread : goal.place-returns-clause-unread
place-returns-clause-unread g t c =
    let p = c.in_ok-number.ensures.ok in
    unread_add c.args.store.now.changes (world_in c.args.store.now) c.args.expr.now c.args.filed.now.shelf c.args.filed.now.next c.place_inputs.new.filed.shelf c.place_inputs.new.filed.next c.put.new.filed.shelf p.added.content p.added.files c.place_inputs.ensures.grown c.in_default.ensures c.in_ok-inputs.ensures.unread

pub place-returns-clause-cost : goal.place-returns-clause-cost
place-returns-clause-cost g t c =
    let p = c.in_ok-number.ensures.ok in
    let i = c.in_ok-inputs.ensures.cost in (
      i.0 ++ c.args.expr.now ∷ [],
      made_whole (world_in c.args.store.now) c.args.expr.now c.args.filed.now.shelf c.place_inputs.new.filed.shelf i.0 c.args.steps.now c.place_inputs.new.steps c.put.new.steps c.place_inputs.ensures.grown.stays i.1 i.2 c.in_default.ensures c.put.ensures.cost,
      kept_whole c.args.expr.now c.place_inputs.new.filed.shelf c.put.new.filed.shelf i.0 (stays_mid c.args.store.now.changes (world_in c.args.store.now) c.args.expr.now c.args.filed.now.shelf c.args.filed.now.next c.place_inputs.new.filed.shelf c.place_inputs.new.filed.next c.put.new.filed.shelf p.added.content p.added.files c.place_inputs.ensures.grown c.in_default.ensures) i.2 (c.place_inputs.new.filed.next, stands_added c.args.store.now.changes (world_in c.args.store.now) c.args.expr.now c.args.filed.now.shelf c.args.filed.now.next c.place_inputs.new.filed.shelf c.place_inputs.new.filed.next c.put.new.filed.shelf p.added.content p.added.files c.place_inputs.ensures.grown c.in_default.ensures),
    )

pub place_inputs-place-requires : goal.place_inputs-place-requires
place_inputs-place-requires g t c κs within =
    let one = equal_one c.args.expr.now c.get.result.now c.in-EqSel.input c.in-EqSel.slot c.in-EqSel.constant c.in-EqSel.is c.get.ensures in
    (search (rules, the_lemmas), (within, (c.requires.ready, (c.requires.counted, (c.requires.below, (one.formed c.requires.formed, room_in_one c.args.expr.now c.get.result.now one c.args.filed.now.next c.requires.room))))))

pub place_inputs-returns-in_err-number-in-EqSel-clause-grown : goal.place_inputs-returns-in_err-number-in-EqSel-clause-grown
place_inputs-returns-in_err-number-in-EqSel-clause-grown g t c =
    let one = equal_one c.args.expr.now c.get.result.now c.in-EqSel.input c.in-EqSel.slot c.in-EqSel.constant c.in-EqSel.is c.get.ensures in
    grown_one c.args.store.now.changes (world_in c.args.store.now) c.args.expr.now c.get.result.now one c.args.filed.now.shelf c.args.filed.now.next c.place.new.filed.shelf c.place.new.filed.next c.place.ensures.grown

pub place_inputs-returns-in_err-number-in-EqSel-clause-cost : goal.place_inputs-returns-in_err-number-in-EqSel-clause-cost
place_inputs-returns-in_err-number-in-EqSel-clause-cost g t c =
    let one = equal_one c.args.expr.now c.get.result.now c.in-EqSel.input c.in-EqSel.slot c.in-EqSel.constant c.in-EqSel.is c.get.ensures in
    let i = c.place.ensures.cost in
    (i.0, made_within (world_in c.args.store.now) c.get.result.now c.args.expr.now c.args.filed.now.shelf i.0 c.args.steps.now c.place.new.steps (parts_one c.args.expr.now c.get.result.now one) i.1, search rules)

pub place_inputs-returns-in_ok-number-in-EqSel-clause-grown : goal.place_inputs-returns-in_ok-number-in-EqSel-clause-grown
place_inputs-returns-in_ok-number-in-EqSel-clause-grown g t c =
    let one = equal_one c.args.expr.now c.get.result.now c.in-EqSel.input c.in-EqSel.slot c.in-EqSel.constant c.in-EqSel.is c.get.ensures in
    grown_one c.args.store.now.changes (world_in c.args.store.now) c.args.expr.now c.get.result.now one c.args.filed.now.shelf c.args.filed.now.next c.place.new.filed.shelf c.place.new.filed.next c.place.ensures.grown

pub place_inputs-returns-in_ok-number-in-EqSel-clause-inputs : goal.place_inputs-returns-in_ok-number-in-EqSel-clause-inputs
place_inputs-returns-in_ok-number-in-EqSel-clause-inputs g t c =
    let one = equal_one c.args.expr.now c.get.result.now c.in-EqSel.input c.in-EqSel.slot c.in-EqSel.constant c.in-EqSel.is c.get.ensures in
    inputs_one c.args.store.now.changes (world_in c.args.store.now) c.args.expr.now c.get.result.now one c.place.new.filed.shelf c.in_ok-number-in-EqSel.number c.in_ok-number-in-EqSel.ensures.stands

pub place_inputs-returns-in_ok-number-in-EqSel-clause-cost : goal.place_inputs-returns-in_ok-number-in-EqSel-clause-cost
place_inputs-returns-in_ok-number-in-EqSel-clause-cost g t c =
    let one = equal_one c.args.expr.now c.get.result.now c.in-EqSel.input c.in-EqSel.slot c.in-EqSel.constant c.in-EqSel.is c.get.ensures in
    let i = c.in_ok-number-in-EqSel.ensures.cost in
    (i.0, made_within (world_in c.args.store.now) c.get.result.now c.args.expr.now c.args.filed.now.shelf i.0 c.args.steps.now c.place.new.steps (parts_one c.args.expr.now c.get.result.now one) i.1, i.2)

pub place_inputs-place-requires-in-RangeSel : goal.place_inputs-place-requires-in-RangeSel
place_inputs-place-requires-in-RangeSel g t c κs within =
    let one = range_one c.args.expr.now c.get-in-RangeSel.result.now c.in-RangeSel.input c.in-RangeSel.slot c.in-RangeSel.interval c.in-RangeSel.is c.get-in-RangeSel.ensures in
    (search (rules, the_lemmas), (within, (c.requires.ready, (c.requires.counted, (c.requires.below, (one.formed c.requires.formed, room_in_one c.args.expr.now c.get-in-RangeSel.result.now one c.args.filed.now.next c.requires.room))))))

pub place_inputs-returns-in_err-number-in-RangeSel-clause-grown : goal.place_inputs-returns-in_err-number-in-RangeSel-clause-grown
place_inputs-returns-in_err-number-in-RangeSel-clause-grown g t c =
    let one = range_one c.args.expr.now c.get-in-RangeSel.result.now c.in-RangeSel.input c.in-RangeSel.slot c.in-RangeSel.interval c.in-RangeSel.is c.get-in-RangeSel.ensures in
    grown_one c.args.store.now.changes (world_in c.args.store.now) c.args.expr.now c.get-in-RangeSel.result.now one c.args.filed.now.shelf c.args.filed.now.next c.place-in-RangeSel.new.filed.shelf c.place-in-RangeSel.new.filed.next c.place-in-RangeSel.ensures.grown

pub place_inputs-returns-in_err-number-in-RangeSel-clause-cost : goal.place_inputs-returns-in_err-number-in-RangeSel-clause-cost
place_inputs-returns-in_err-number-in-RangeSel-clause-cost g t c =
    let one = range_one c.args.expr.now c.get-in-RangeSel.result.now c.in-RangeSel.input c.in-RangeSel.slot c.in-RangeSel.interval c.in-RangeSel.is c.get-in-RangeSel.ensures in
    let i = c.place-in-RangeSel.ensures.cost in
    (i.0, made_within (world_in c.args.store.now) c.get-in-RangeSel.result.now c.args.expr.now c.args.filed.now.shelf i.0 c.args.steps.now c.place-in-RangeSel.new.steps (parts_one c.args.expr.now c.get-in-RangeSel.result.now one) i.1, search rules)

pub place_inputs-returns-in_ok-number-in-RangeSel-clause-grown : goal.place_inputs-returns-in_ok-number-in-RangeSel-clause-grown
place_inputs-returns-in_ok-number-in-RangeSel-clause-grown g t c =
    let one = range_one c.args.expr.now c.get-in-RangeSel.result.now c.in-RangeSel.input c.in-RangeSel.slot c.in-RangeSel.interval c.in-RangeSel.is c.get-in-RangeSel.ensures in
    grown_one c.args.store.now.changes (world_in c.args.store.now) c.args.expr.now c.get-in-RangeSel.result.now one c.args.filed.now.shelf c.args.filed.now.next c.place-in-RangeSel.new.filed.shelf c.place-in-RangeSel.new.filed.next c.place-in-RangeSel.ensures.grown

pub place_inputs-returns-in_ok-number-in-RangeSel-clause-inputs : goal.place_inputs-returns-in_ok-number-in-RangeSel-clause-inputs
place_inputs-returns-in_ok-number-in-RangeSel-clause-inputs g t c =
    let one = range_one c.args.expr.now c.get-in-RangeSel.result.now c.in-RangeSel.input c.in-RangeSel.slot c.in-RangeSel.interval c.in-RangeSel.is c.get-in-RangeSel.ensures in
    inputs_one c.args.store.now.changes (world_in c.args.store.now) c.args.expr.now c.get-in-RangeSel.result.now one c.place-in-RangeSel.new.filed.shelf c.in_ok-number-in-RangeSel.number c.in_ok-number-in-RangeSel.ensures.stands

pub place_inputs-returns-in_ok-number-in-RangeSel-clause-cost : goal.place_inputs-returns-in_ok-number-in-RangeSel-clause-cost
place_inputs-returns-in_ok-number-in-RangeSel-clause-cost g t c =
    let one = range_one c.args.expr.now c.get-in-RangeSel.result.now c.in-RangeSel.input c.in-RangeSel.slot c.in-RangeSel.interval c.in-RangeSel.is c.get-in-RangeSel.ensures in
    let i = c.in_ok-number-in-RangeSel.ensures.cost in
    (i.0, made_within (world_in c.args.store.now) c.get-in-RangeSel.result.now c.args.expr.now c.args.filed.now.shelf i.0 c.args.steps.now c.place-in-RangeSel.new.steps (parts_one c.args.expr.now c.get-in-RangeSel.result.now one) i.1, i.2)

pub place_inputs-place-requires-in-Join : goal.place_inputs-place-requires-in-Join
place_inputs-place-requires-in-Join g t c κs within =
    let two = join_two c.args.expr.now c.get-in-Join.result.now c.in-Join.right c.in-Join.left c.in-Join.right c.in-Join.pairs c.in-Join.is c.get-in-Join.ensures refl in
    (grind (arith, the_lemmas), (within, (c.requires.ready, (c.requires.counted, (c.requires.below, (two.left_formed c.requires.formed, room_in_left c.args.expr.now c.get-in-Join.result.now c.in-Join.right two c.args.filed.now.next c.requires.room))))))

pub place_inputs-returns-in_err-first-in-Join-clause-grown : goal.place_inputs-returns-in_err-first-in-Join-clause-grown
place_inputs-returns-in_err-first-in-Join-clause-grown g t c =
    let two = join_two c.args.expr.now c.get-in-Join.result.now c.in-Join.right c.in-Join.left c.in-Join.right c.in-Join.pairs c.in-Join.is c.get-in-Join.ensures refl in
    grown_left c.args.store.now.changes (world_in c.args.store.now) c.args.expr.now c.get-in-Join.result.now c.in-Join.right two c.args.filed.now.shelf c.args.filed.now.next c.place-in-Join.new.filed.shelf c.place-in-Join.new.filed.next c.place-in-Join.ensures.grown

pub place_inputs-returns-in_err-first-in-Join-clause-cost : goal.place_inputs-returns-in_err-first-in-Join-clause-cost
place_inputs-returns-in_err-first-in-Join-clause-cost g t c =
    let two = join_two c.args.expr.now c.get-in-Join.result.now c.in-Join.right c.in-Join.left c.in-Join.right c.in-Join.pairs c.in-Join.is c.get-in-Join.ensures refl in
    let i = c.place-in-Join.ensures.cost in
    (i.0, made_within (world_in c.args.store.now) c.get-in-Join.result.now c.args.expr.now c.args.filed.now.shelf i.0 c.args.steps.now c.place-in-Join.new.steps (parts_left c.args.expr.now c.get-in-Join.result.now _ two) i.1, search rules)

pub place_inputs-place-requires-in-Join-2 : goal.place_inputs-place-requires-in-Join-2
place_inputs-place-requires-in-Join-2 g t c κs within =
    let two = join_two c.args.expr.now c.get-in-Join.result.now c.get-in-Join-2.result.now c.in-Join.left c.in-Join.right c.in-Join.pairs c.in-Join.is c.get-in-Join.ensures c.get-in-Join-2.ensures in
    (grind (arith, the_lemmas), (within, (c.place-in-Join.ensures.grown.ready, (c.place-in-Join.ensures.counted, (c.place-in-Join.ensures.grown.below, (two.right_formed c.requires.formed, room_in_right c.args.expr.now c.get-in-Join.result.now c.get-in-Join-2.result.now two c.args.filed.now.next c.place-in-Join.new.filed.next c.place-in-Join.ensures.grown.room c.requires.room))))))

pub place_inputs-returns-in_err-second-in-Join-clause-grown : goal.place_inputs-returns-in_err-second-in-Join-clause-grown
place_inputs-returns-in_err-second-in-Join-clause-grown g t c =
    let two = join_two c.args.expr.now c.get-in-Join.result.now c.get-in-Join-2.result.now c.in-Join.left c.in-Join.right c.in-Join.pairs c.in-Join.is c.get-in-Join.ensures c.get-in-Join-2.ensures in
    grown_two c.args.store.now.changes (world_in c.args.store.now) c.args.expr.now c.get-in-Join.result.now c.get-in-Join-2.result.now two c.args.filed.now.shelf c.args.filed.now.next c.place-in-Join.new.filed.shelf c.place-in-Join.new.filed.next c.place-in-Join.ensures.grown c.place-in-Join-2.new.filed.shelf c.place-in-Join-2.new.filed.next c.place-in-Join-2.ensures.grown

pub place_inputs-returns-in_err-second-in-Join-clause-cost : goal.place_inputs-returns-in_err-second-in-Join-clause-cost
place_inputs-returns-in_err-second-in-Join-clause-cost g t c =
    let two = join_two c.args.expr.now c.get-in-Join.result.now c.get-in-Join-2.result.now c.in-Join.left c.in-Join.right c.in-Join.pairs c.in-Join.is c.get-in-Join.ensures c.get-in-Join-2.ensures in
    let i = c.in_ok-first-in-Join.ensures.cost in
    let j = c.place-in-Join-2.ensures.cost in
    (i.0 ++ j.0, made_then (world_in c.args.store.now) c.args.expr.now c.args.filed.now.shelf c.place-in-Join.new.filed.shelf i.0 j.0 c.args.steps.now c.place-in-Join.new.steps c.place-in-Join-2.new.steps c.place-in-Join.ensures.grown.stays (made_within (world_in c.args.store.now) c.get-in-Join.result.now c.args.expr.now c.args.filed.now.shelf i.0 c.args.steps.now c.place-in-Join.new.steps (parts_left c.args.expr.now c.get-in-Join.result.now _ two) i.1) i.2 (made_within (world_in c.args.store.now) c.get-in-Join-2.result.now c.args.expr.now c.place-in-Join.new.filed.shelf j.0 c.place-in-Join.new.steps c.place-in-Join-2.new.steps (parts_right c.args.expr.now c.get-in-Join.result.now c.get-in-Join-2.result.now two) j.1), search rules)

pub place_inputs-returns-in_ok-second-in-Join-clause-grown : goal.place_inputs-returns-in_ok-second-in-Join-clause-grown
place_inputs-returns-in_ok-second-in-Join-clause-grown g t c =
    let two = join_two c.args.expr.now c.get-in-Join.result.now c.get-in-Join-2.result.now c.in-Join.left c.in-Join.right c.in-Join.pairs c.in-Join.is c.get-in-Join.ensures c.get-in-Join-2.ensures in
    grown_two c.args.store.now.changes (world_in c.args.store.now) c.args.expr.now c.get-in-Join.result.now c.get-in-Join-2.result.now two c.args.filed.now.shelf c.args.filed.now.next c.place-in-Join.new.filed.shelf c.place-in-Join.new.filed.next c.place-in-Join.ensures.grown c.place-in-Join-2.new.filed.shelf c.place-in-Join-2.new.filed.next c.place-in-Join-2.ensures.grown

pub place_inputs-returns-in_ok-second-in-Join-clause-inputs : goal.place_inputs-returns-in_ok-second-in-Join-clause-inputs
place_inputs-returns-in_ok-second-in-Join-clause-inputs g t c =
    let two = join_two c.args.expr.now c.get-in-Join.result.now c.get-in-Join-2.result.now c.in-Join.left c.in-Join.right c.in-Join.pairs c.in-Join.is c.get-in-Join.ensures c.get-in-Join-2.ensures in
    inputs_two c.args.store.now.changes (world_in c.args.store.now) c.args.expr.now c.get-in-Join.result.now c.get-in-Join-2.result.now two c.args.filed.now.shelf c.args.filed.now.next c.place-in-Join.new.filed.shelf c.place-in-Join.new.filed.next c.place-in-Join.ensures.grown c.place-in-Join-2.new.filed.shelf c.place-in-Join-2.new.filed.next c.place-in-Join-2.ensures.grown
    c.in-Join.pairs (c.in-Join.is ∙ (λ k. Join (sym c.get-in-Join.ensures k) (sym c.get-in-Join-2.ensures k) c.in-Join.pairs)) c.in_ok-first-in-Join.first c.in_ok-second-in-Join.second c.in_ok-first-in-Join.ensures.stands c.in_ok-second-in-Join.ensures.stands

pub place_inputs-returns-in_ok-second-in-Join-clause-unread : goal.place_inputs-returns-in_ok-second-in-Join-clause-unread
place_inputs-returns-in_ok-second-in-Join-clause-unread g t c =
    let two = join_two c.args.expr.now c.get-in-Join.result.now c.get-in-Join-2.result.now c.in-Join.left c.in-Join.right c.in-Join.pairs c.in-Join.is c.get-in-Join.ensures c.get-in-Join-2.ensures in
    unread_two c.get-in-Join.result.now c.get-in-Join-2.result.now c.args.expr.now c.args.store.now.changes (world_in c.args.store.now) c.args.filed.now.next c.place-in-Join.new.filed.shelf c.place-in-Join.new.filed.next c.place-in-Join-2.new.filed.shelf c.place-in-Join-2.new.filed.next
    two.left_reads two.right_reads c.in_ok-first-in-Join.ensures.unread c.place-in-Join-2.ensures.grown c.in_ok-second-in-Join.ensures.unread

pub place_inputs-returns-in_ok-second-in-Join-clause-cost : goal.place_inputs-returns-in_ok-second-in-Join-clause-cost
place_inputs-returns-in_ok-second-in-Join-clause-cost g t c =
    let two = join_two c.args.expr.now c.get-in-Join.result.now c.get-in-Join-2.result.now c.in-Join.left c.in-Join.right c.in-Join.pairs c.in-Join.is c.get-in-Join.ensures c.get-in-Join-2.ensures in
    let i = c.in_ok-first-in-Join.ensures.cost in
    let j = c.in_ok-second-in-Join.ensures.cost in (
      i.0 ++ j.0,
      made_then (world_in c.args.store.now) c.args.expr.now c.args.filed.now.shelf c.place-in-Join.new.filed.shelf i.0 j.0 c.args.steps.now c.place-in-Join.new.steps c.place-in-Join-2.new.steps c.place-in-Join.ensures.grown.stays (made_within (world_in c.args.store.now) c.get-in-Join.result.now c.args.expr.now c.args.filed.now.shelf i.0 c.args.steps.now c.place-in-Join.new.steps (parts_left c.args.expr.now c.get-in-Join.result.now _ two) i.1) i.2 (made_within (world_in c.args.store.now) c.get-in-Join-2.result.now c.args.expr.now c.place-in-Join.new.filed.shelf j.0 c.place-in-Join.new.steps c.place-in-Join-2.new.steps (parts_right c.args.expr.now c.get-in-Join.result.now c.get-in-Join-2.result.now two) j.1),
      kept_both c.place-in-Join.new.filed.shelf c.place-in-Join-2.new.filed.shelf i.0 j.0 c.place-in-Join-2.ensures.grown.stays i.2 j.2,
    )
