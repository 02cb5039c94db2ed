use Rattle.std.proofs.Common.{[], sym, subst}
use Rattle.ncq_shelf.specs.Inputs.{AreInputs}
use Rattle.ncq_shelf.specs.Shown.{shown}
use Rattle.ncq_shelf.specs.Wired.{AreAlike}
use Rattle.ncq_shelf.proofs.AnyGroups.{inputs_any}
use Rattle.ncq_shelf.proofs.Turns.{alike_itself, any_err, ok_and}
use Rattle.ncq_shelf.proofs.admit.admit.Goals as goal

pub returns-in_err-key_join-clause-alike : goal.returns-in_err-key_join-clause-alike
returns-in_err-key_join-clause-alike c = any_err _ (alike_itself c.args.files.now.entries)

pub returns-in_err-copies-clause-alike : goal.returns-in_err-copies-clause-alike
returns-in_err-copies-clause-alike c = any_err _ (subst (AreAlike c.args.files.now.entries) (sym c.make_room.ensures.files) (alike_itself c.args.files.now.entries))

pub announce-requires-clause-inputs : goal.announce-requires-clause-inputs
announce-requires-clause-inputs c =
    subst (λ fs. AreInputs (shown [] fs) c.args.expr.now c.args.inputs) (sym c.make_room.ensures.files)
    (inputs_any c.args.files.now.entries c.args.groups.now.entries [] c.args.expr.now c.args.inputs c.requires.inputs)

pub returns-clause-scan : goal.returns-clause-scan
returns-clause-scan c = ok_and _ c.announce.result _ c.and.result c.and.ensures c.announce.ensures.scan

pub make_room-requires-clause-inputs : goal.make_room-requires-clause-inputs
make_room-requires-clause-inputs c =
    inputs_any c.args.files.now.entries c.args.groups.now.entries [] c.args.expr.now c.args.inputs c.requires.inputs
