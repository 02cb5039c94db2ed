use Rattle.std.proofs.Common.{◌≡◌, ◌∙◌, sym, rules}
use Rattle.std.specs.Prelude.{true}
use Rattle.std.specs.Option.{is_some}
use Rattle.ncq_script.proofs.BlockLaws.{join_ends}
use Rattle.ncq_script.proofs.command_lines.take_line.Goals as goal

pub returns-clause-ends : goal.returns-clause-ends
returns-clause-ends c =
    let some : is_some c.args.current.now ≡ true = search rules in
    join_ends c.args.current.now _ _ some (sym c.is_end.ensures ∙ c.if-is_end.false) c.in_ok-join_line.ensures.ok
