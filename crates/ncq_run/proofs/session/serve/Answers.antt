use Rattle.std.proofs.Common.{arith, rules, refl, ◌∙◌}
use Rattle.std.specs.Option.{option_copied}
use Rattle.ncq_run.proofs.Turns.{at_start, never_begun, over_same}
use Rattle.ncq_run.proofs.session.serve.Goals as goal

pub returns-in_default-clause-over : goal.returns-in_default-clause-over
returns-in_default-clause-over g c = never_begun _ _ _ _ c.args.limit _ _ _ _ _ _

pub new-requires : goal.new-requires
new-requires g c = let limit = c.requires.limit in omega (arith, limit)

pub turns-init : goal.turns-init
turns-init g c =
    let so_far = at_start (option_copied c.args.task.now.whose) _ c.args.engine.now (g.I.Source.left c.args.input.now) (g.O.Sink.held c.args.output.now) (g.I.Source.given c.args.input.now) (g.I.Source.faults c.args.input.now)
    (g.O.Sink.faults c.args.output.now) c.args.steps.now c.new.ensures.follows c.new.ensures.open c.requires.fresh in
    record {
      ready = record { some = (so_far.bytes, c.args.steps.now, so_far.long, so_far.answered.up_to); within = omega arith; small = c.requires.most; room_is = search rules; is_open = c.new.ensures.open };
      so_far = so_far;
      handed = refl;
      is_sure = refl;
      sure = refl;
      most = refl;
      limit = c.new.ensures.limit;
    }

pub turn-requires-clause-ready : goal.turn-requires-clause-ready
turn-requires-clause-ready g c = c.turns.invariant.ready

pub turn-requires-clause-handlers : goal.turn-requires-clause-handlers
turn-requires-clause-handlers g c = c.turns.invariant.handed ∙ c.requires.handlers

pub returns-in-Some-clause-over : goal.returns-in-Some-clause-over
returns-in-Some-clause-over g c = over_same _ _ c.turns.invariant.handed _ _ _ _ _ _ _ _ _ _ _ c.turns.invariant.limit c.turns.invariant.most (c.in-Some.ensures.turns _ _ c.turns.invariant.so_far)

pub turns-preserved : goal.turns-preserved
turns-preserved g c = record {
  ready = rw c.turn.ensures.limits.0 c.in_default-turn.ensures.ready;
  so_far = c.in_default-turn.ensures.turns _ _ c.turns.invariant.so_far;
  handed = c.turn.ensures.handed ∙ c.turns.invariant.handed;
  is_sure = c.turn.ensures.stays.0 ∙ c.turns.invariant.is_sure;
  sure = c.turn.ensures.stays.1 ∙ c.turns.invariant.sure;
  most = c.turn.ensures.limits.0 ∙ c.turns.invariant.most;
  limit = c.turn.ensures.limits.1 ∙ c.turns.invariant.limit;
}
