use Rattle.std.proofs.Common.{arith, ◌∙◌}
use Rattle.std.proofs.lemmas.Result.{err_from_is_err_and}
use Rattle.ncq_script.proofs.CallerLemmas.{given_few}
use Rattle.ncq_run.proofs.Answered.{advanced_more, advanced_none, advances_all, advances_not, advances_tried, tallied_next, tallied_none}
use Rattle.ncq_run.proofs.load.tally_commands.Goals as goal

pub tally_one-requires-clause-few : goal.tally_one-requires-clause-few
tally_one-requires-clause-few g c =
    let so = c.requires.so_far in
    let now = c.commands.invariant.advanced.up_to so.0 so.1 so.3.up_to in
    let next = rw c.in-Ok-Command.field-0-is at c.in-Ok-Command.ensures.next in
    omega (arith, given_few _ _ _ _ _ (next so.0 c.commands.engine.count now.follows).0, so.2)

pub tally_one-requires-clause-handlers : goal.tally_one-requires-clause-handlers
tally_one-requires-clause-handlers g c = c.commands.invariant.advanced.handed ∙ c.requires.handlers

pub tally_one-requires-clause-small : goal.tally_one-requires-clause-small
tally_one-requires-clause-small g c = let so = c.requires.so_far in (c.commands.invariant.tallied so.0 so.1 so.3).small

pub commands-init : goal.commands-init
commands-init g c = record { advanced = advanced_none _ _ _; tallied = λ bytes begun so. so }

pub commands-preserved : goal.commands-preserved
commands-preserved g c =
    let next = rw c.in-Ok-Command.field-0-is at c.in-Ok-Command.ensures.next in
    let asks = c.in_ok-tally_one-in-Ok-Command.ensures.asks in
    record {
      advanced = advanced_more c.commands.invariant.advanced _ c.in-Ok-Command.ensures.limit c.in-Ok-Command.ensures.finished _ next _ asks;
      tallied = λ bytes begun so.
          let was = c.commands.invariant.tallied bytes begun so in
          let now = next bytes c.commands.engine.count was.up_to.follows in
          tallied_next bytes c.commands.reader c.next.new.self c.in-Ok-Command.ensures.limit c.in-Ok-Command.ensures.finished c.commands.engine c.tally_one.new.engine _ _ _ now.0 _ asks now.1 was
          (c.in_ok-tally_one-in-Ok-Command.ensures.tallied _ was.up_to.stands) c.in_ok-tally_one-in-Ok-Command.ensures.small;
    }

pub returns-in_err-tally_one-in-Ok-Command-clause-advances : goal.returns-in_err-tally_one-in-Ok-Command-clause-advances
returns-in_err-tally_one-in-Ok-Command-clause-advances g c =
    let p = err_from_is_err_and c.from_residual.result c.from_residual.ensures.1 in
    let next = rw c.in-Ok-Command.field-0-is at c.in-Ok-Command.ensures.next in
    advances_tried c.commands.invariant.advanced _ c.in-Ok-Command.ensures.limit c.in-Ok-Command.ensures.finished _ next _ _ p.0 p.1 c.in_err-tally_one-in-Ok-Command.ensures.asks

pub returns-in-Ok-Wanting-clause-advances : goal.returns-in-Ok-Wanting-clause-advances
returns-in-Ok-Wanting-clause-advances g c =
    let next = rw c.in-Ok-Wanting.field-0-is at c.in-Ok-Wanting.ensures.next in
    advances_all c.commands.invariant.advanced _ c.in-Ok-Wanting.ensures.limit c.in-Ok-Wanting.ensures.finished _ (λ bytes count follows. let now = next bytes count follows in (now.1, now.2))

pub returns-in-Ok-Wanting-clause-tallied : goal.returns-in-Ok-Wanting-clause-tallied
returns-in-Ok-Wanting-clause-tallied g c bytes begun so =
    let was = c.commands.invariant.tallied bytes begun so in
    let next = rw c.in-Ok-Wanting.field-0-is at c.in-Ok-Wanting.ensures.next in
    let now = next bytes c.commands.engine.count was.up_to.follows in
    tallied_none bytes c.commands.reader c.next.new.self c.in-Ok-Wanting.ensures.limit c.in-Ok-Wanting.ensures.finished c.commands.engine _ _ _ now.1 now.2 was

pub returns-in-Ok-End-clause-advances : goal.returns-in-Ok-End-clause-advances
returns-in-Ok-End-clause-advances g c =
    let next = rw c.in-Ok-End.field-0-is at c.in-Ok-End.ensures.next in
    advances_all c.commands.invariant.advanced _ c.in-Ok-End.ensures.limit c.in-Ok-End.ensures.finished _ (λ bytes count follows. let now = next bytes count follows in (now.1, now.2))

pub returns-in-Ok-End-clause-tallied : goal.returns-in-Ok-End-clause-tallied
returns-in-Ok-End-clause-tallied g c bytes begun so =
    let was = c.commands.invariant.tallied bytes begun so in
    let next = rw c.in-Ok-End.field-0-is at c.in-Ok-End.ensures.next in
    let now = next bytes c.commands.engine.count was.up_to.follows in
    tallied_none bytes c.commands.reader c.next.new.self c.in-Ok-End.ensures.limit c.in-Ok-End.ensures.finished c.commands.engine _ _ _ now.1 now.2 was

pub returns-in-Err-clause-advances : goal.returns-in-Err-clause-advances
returns-in-Err-clause-advances g c = advances_not c.commands.invariant.advanced _ c.next.ensures.limit c.next.ensures.finished _
