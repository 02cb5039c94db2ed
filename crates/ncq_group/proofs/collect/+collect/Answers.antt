use Rattle.std.proofs.Common.{◌<◌, sym, subst, arith}
use Rattle.ncq_shelf.specs.Stands.{IsGrounded}
use Rattle.ncq_group.specs.Collected.{IsCollected}
use Rattle.ncq_group.proofs.Collects.{grounded_rest, collected_leaf, collected_one, collected_two, input_below}
use Rattle.ncq_shelf.proofs.CallerLemmas.{side_reads-left, side_reads-right}
use Rattle.ncq_group.proofs.collect.+collect.Goals as goal

pub collect-requires : goal.collect-requires
collect-requires t c =
    let idle = c.if-is_idle.ensures in
    let are = c.in-One.ensures.inputs idle.file idle.at in
    let below : c.in-One.input < c.args.number = input_below c.args.filed.now.shelf c.args.number c.in-One.input idle.file are.input c.requires.grounded idle.at are.reads are.stands in
    (omega arith, (subst IsGrounded (sym c.take_out.ensures.gone) (grounded_rest c.args.filed.now.shelf c.args.number idle c.requires.grounded), c.take_out.ensures.counted))

pub collect-requires-in-Two : goal.collect-requires-in-Two
collect-requires-in-Two t c =
    let idle = c.if-is_idle.ensures in
    let are = c.in-Two.ensures.inputs idle.file idle.at in
    let below : c.in-Two.left < c.args.number = input_below c.args.filed.now.shelf c.args.number c.in-Two.left idle.file are.first c.requires.grounded idle.at (side_reads-left c.args.filed.now.shelf idle.file.expr c.in-Two.left c.in-Two.right are) are.on_left in
    (omega arith, (subst IsGrounded (sym c.take_out.ensures.gone) (grounded_rest c.args.filed.now.shelf c.args.number idle c.requires.grounded), c.take_out.ensures.counted))

pub collect-requires-in-Two-2 : goal.collect-requires-in-Two-2
collect-requires-in-Two-2 t c =
    let idle = c.if-is_idle.ensures in
    let are = c.in-Two.ensures.inputs idle.file idle.at in
    let below : c.in-Two.right < c.args.number = input_below c.args.filed.now.shelf c.args.number c.in-Two.right idle.file are.second c.requires.grounded idle.at (side_reads-right c.args.filed.now.shelf idle.file.expr c.in-Two.left c.in-Two.right are) are.on_right in
    (omega arith, (c.collect-in-Two.ensures.grounded, c.collect-in-Two.ensures.counted))

pub returns-in-Nothing-clause-grounded : goal.returns-in-Nothing-clause-grounded
returns-in-Nothing-clause-grounded t c = subst IsGrounded (sym c.take_out.ensures.gone) (grounded_rest c.args.filed.now.shelf c.args.number c.if-is_idle.ensures c.requires.grounded)

pub returns-in-Nothing-clause-collected : goal.returns-in-Nothing-clause-collected
returns-in-Nothing-clause-collected t c =
    let idle = c.if-is_idle.ensures in
    subst (IsCollected c.args.filed.now.shelf c.args.number) (sym c.take_out.ensures.gone) (collected_leaf c.args.filed.now.shelf c.args.number idle (c.in-Nothing.ensures.inputs idle.file idle.at))

pub returns-in-One-clause-collected : goal.returns-in-One-clause-collected
returns-in-One-clause-collected t c =
    let idle = c.if-is_idle.ensures in
    collected_one c.args.filed.now.shelf c.args.number idle c.requires.grounded c.collect.new.filed.shelf c.in-One.input (c.in-One.ensures.inputs idle.file idle.at)
    (subst (λ f. IsCollected f c.in-One.input c.collect.new.filed.shelf) c.take_out.ensures.gone c.collect.ensures.collected)

pub returns-in-Two-clause-collected : goal.returns-in-Two-clause-collected
returns-in-Two-clause-collected t c =
    let idle = c.if-is_idle.ensures in
    collected_two c.args.filed.now.shelf c.args.number idle c.requires.grounded c.collect-in-Two-2.new.filed.shelf c.in-Two.left c.in-Two.right c.collect-in-Two.new.filed.shelf (c.in-Two.ensures.inputs idle.file idle.at)
    (subst (λ f. IsCollected f c.in-Two.left c.collect-in-Two.new.filed.shelf) c.take_out.ensures.gone c.collect-in-Two.ensures.collected)
    c.collect-in-Two-2.ensures.collected
