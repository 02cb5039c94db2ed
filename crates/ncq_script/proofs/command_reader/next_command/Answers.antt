use Rattle.std.proofs.Common.{ℕ, List, ◌≡◌, ◌∙◌, ◌+◌, ◌<◌, ◌≤◌, true, length, ap, arith, refl}
use Rattle.std.specs.Prelude.{Option, Some, None, Result, Ok, Err, OnErr}
use Rattle.ncq_script.specs.NextOfCommands.{held}
use Rattle.ncq_script.specs.OpenCommands.{opened}
use Rattle.ncq_script.specs.Reading.{Follows}
use Rattle.ncq_script.specs.declared.command_lines.CommandLines.{CommandLines}
use Rattle.ncq_script.proofs.BlockLaws.{opened_open, give_none, give_some}
use Rattle.ncq_script.proofs.Follow.{ready_next, passed_less}
use Rattle.ncq_script.proofs.Following.{line_joined, line_ended, lines_moved, wanting, at_end, at_last}
use Rattle.ncq_script.proofs.command_reader.next_command.Goals as goal

held_few : (current : Option CommandLines) → held current ≤ 1
held_few None = omega arith
held_few (Some command) = omega arith

err_always : {T E P : Type 0} (result : Result T E) → P → OnErr result P
err_always (Ok x) p = tt
err_always (Err e) p = p

pub line-long-requires : goal.line-long-requires
line-long-requires c = c.in_ok-len.ensures.ready c.in-Line.len c.in-Line.is

pub lines-preserved : goal.lines-preserved
lines-preserved c =
    let found = rw c.in-Line.is at c.in_ok-len.ensures.found in
    let ready = c.in_ok-len.ensures.ready c.in-Line.len c.in-Line.is in
    let ends = c.in_ok-command-in-Line.ensures.ends in
    let less = passed_less c.find.new.self c.in-Line.len ready in
    let limit = c.in_ok-len.ensures.limit in
    let finished = c.in_ok-len.ensures.finished in
    rw c.pass.ensures record {
      follows = λ pushed count f.
          line_joined c.find.new.self _ _ _ _ refl refl (ready_next c.find.new.self c.in-Line.len _ ready c.line-long.ensures.line) _ c.in-None.is ends.given pushed count
          (lines_moved _ _ _ found limit finished pushed count (c.lines.invariant.follows pushed count f));
      size = omega (arith, c.lines.invariant.size, c.in_ok-len.ensures.less, less, held_few (opened c.take_line.new.current));
      limit = limit ∙ c.lines.invariant.limit;
      finished = finished ∙ c.lines.invariant.finished;
    }

pub returns-in-Some-clause-next : goal.returns-in-Some-clause-next
returns-in-Some-clause-next c pushed count f =
    let found = rw c.in-Line.is at c.in_ok-len.ensures.found in
    let ready = c.in_ok-len.ensures.ready c.in-Line.len c.in-Line.is in
    let ends = c.in_ok-command-in-Line.ensures.ends in
    let limit = c.in_ok-len.ensures.limit in
    let finished = c.in_ok-len.ensures.finished in
    let closed : c.in-Some.command.closed ≡ true = rw c.in-Some.is at ends.closed in
    rw (← c.lines.invariant.limit, ← c.lines.invariant.finished, ← limit, ← finished, c.pass.ensures)
    (line_ended c.find.new.self _ _ _ _ refl refl (ready_next c.find.new.self c.in-Line.len _ ready c.line-long.ensures.line) _ c.in-Some.command c.in-Some.is ends.given closed pushed count
    (lines_moved _ _ _ found limit finished pushed count (c.lines.invariant.follows pushed count f)))

pub returns-in-Some-clause-falls : goal.returns-in-Some-clause-falls
returns-in-Some-clause-falls c =
    let ready = c.in_ok-len.ensures.ready c.in-Line.len c.in-Line.is in
    let none : opened c.take_line.new.current ≡ None = rw c.in-Some.is at c.in_ok-command-in-Line.ensures.ends.none in
    rw c.pass.ensures (omega (arith, c.lines.invariant.size, c.in_ok-len.ensures.less, passed_less c.find.new.self c.in-Line.len ready, ap held none))

pub returns-in_err-command-in-Line-clause-err : goal.returns-in_err-command-in-Line-clause-err
returns-in_err-command-in-Line-clause-err c =
    let found = rw c.in-Line.is at c.in_ok-len.ensures.found in
    let stays : (pushed : List ℕ) (count : ℕ) → Follows (record { lines = c.args.lines.now; current = opened c.args.current.now }) pushed count
    → Follows (record { lines = c.find.new.self; current = opened c.take_line.new.current }) pushed count =
    λ pushed count f. rw c.in_err-command-in-Line.ensures.err
    (lines_moved _ _ _ found c.in_ok-len.ensures.limit c.in_ok-len.ensures.finished pushed count (c.lines.invariant.follows pushed count f)) in
    err_always _ stays

pub lines-smaller : goal.lines-smaller
lines-smaller c =
    let ready = c.in_ok-len.ensures.ready c.in-Line.len c.in-Line.is in
    let less : length c.pass.new.self.kept + length c.pass.new.self.ahead < length c.lines.lines.kept + length c.lines.lines.ahead =
    rw c.pass.ensures (omega (arith, c.in_ok-len.ensures.less, passed_less c.find.new.self c.in-Line.len ready)) in
    less

pub returns-in-Wanting-clause-next : goal.returns-in-Wanting-clause-next
returns-in-Wanting-clause-next c pushed count f =
    let next = rw c.in-Wanting.is at c.in_ok-len.ensures.found in
    rw (← c.lines.invariant.limit, ← c.lines.invariant.finished)
    (wanting _ _ _ c.in_ok-len.ensures.limit c.in_ok-len.ensures.finished (opened_open c.lines.current) next pushed count (c.lines.invariant.follows pushed count f))

pub returns-in-Some-give_open-clause-next : goal.returns-in-Some-give_open-clause-next
returns-in-Some-give_open-clause-next c pushed count f =
    let next = rw c.in-End.is at c.in_ok-len.ensures.found in
    let is_open = opened_open c.lines.current in
    let some = give_some (opened c.lines.current) c.give_open.result c.in-Some-give_open.command is_open c.give_open.ensures.given c.in-Some-give_open.is in
    rw (← c.lines.invariant.limit, ← c.lines.invariant.finished, c.give_open.ensures.none)
    (at_last _ _ _ c.in_ok-len.ensures.limit c.in_ok-len.ensures.finished is_open next _ some pushed count (c.lines.invariant.follows pushed count f))

pub returns-in-Some-give_open-clause-falls : goal.returns-in-Some-give_open-clause-falls
returns-in-Some-give_open-clause-falls c =
    let some = give_some (opened c.lines.current) c.give_open.result c.in-Some-give_open.command (opened_open c.lines.current) c.give_open.ensures.given c.in-Some-give_open.is in
    omega (arith, c.lines.invariant.size, c.in_ok-len.ensures.less, ap held some, ap held c.give_open.ensures.none)

pub returns-in-None-give_open-clause-next : goal.returns-in-None-give_open-clause-next
returns-in-None-give_open-clause-next c pushed count f =
    let next = rw c.in-End.is at c.in_ok-len.ensures.found in
    let none = give_none (opened c.lines.current) c.give_open.result c.give_open.ensures.given c.in-None-give_open.is in
    rw (← c.lines.invariant.limit, ← c.lines.invariant.finished, c.give_open.ensures.none)
    (at_end _ _ _ c.in_ok-len.ensures.limit c.in_ok-len.ensures.finished (opened_open c.lines.current) next none pushed count (c.lines.invariant.follows pushed count f))
