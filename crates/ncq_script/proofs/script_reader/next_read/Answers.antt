use Rattle.std.specs.Prelude.{Result, Ok, Err, OnErr}
use Rattle.ncq_script.proofs.ScriptLaws.{read_given, read_waits, none_taken, none_left_over}
use Rattle.ncq_script.proofs.script_reader.next_read.Goals as goal

on_err : {T E P : Type 0} (result : Result T E) → P → OnErr result P
on_err (Ok x) p = tt
on_err (Err e) p = p

pub returns-in_err-lines-clause-err : goal.returns-in_err-lines-clause-err
returns-in_err-lines-clause-err c = on_err c.from_residual.result (λ pushed count f. none_taken _ _ _ _ pushed count c.next_lines.ensures.none (c.in_err-lines.ensures.err pushed count) f)

pub returns-in-Lines-clause-next : goal.returns-in-Lines-clause-next
returns-in-Lines-clause-next c =
    let taken = rw c.in-Lines.is at c.in_ok-lines.ensures.next in
    read_given _ _ _ _ c.in-Lines.lines taken c.read_or_wait.result c.read_or_wait.ensures.read (rw c.next_lines.ensures.none at c.read_or_wait.ensures.stays)

pub returns-in-Lines-clause-err : goal.returns-in-Lines-clause-err
returns-in-Lines-clause-err c =
    let taken = rw c.in-Lines.is at c.in_ok-lines.ensures.next in
    read_waits _ _ _ _ c.in-Lines.lines taken c.read_or_wait.result c.read_or_wait.ensures.waits c.next_lines.ensures.limit c.next_lines.ensures.finished

pub returns-in-Wanting-clause-next : goal.returns-in-Wanting-clause-next
returns-in-Wanting-clause-next c pushed count f =
    let all = rw c.in-Wanting.is at c.in_ok-lines.ensures.next in
    none_left_over _ _ _ _ pushed count _ c.next_lines.ensures.none (all pushed count) f

pub returns-in-End-clause-next : goal.returns-in-End-clause-next
returns-in-End-clause-next c pushed count f =
    let all = rw c.in-End.is at c.in_ok-lines.ensures.next in
    none_left_over _ _ _ _ pushed count _ c.next_lines.ensures.none (all pushed count) f
