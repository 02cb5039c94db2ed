use Rattle.std.proofs.Common.{sym, ◌∙◌, ap, Some}
use Rattle.std.specs.Option.{option_copied}
use Rattle.ncq_pyx.specs.Spells.{fits}
use Rattle.ncq_pyx.proofs.Steps.{erases, takes_line, takes_depth, too_deep, turn_is}
use Rattle.ncq_pyx.proofs.reader.Reader.step.Goals as goal

pub returns-then-not-fits-clause-answer : goal.returns-then-not-fits-clause-answer
returns-then-not-fits-clause-answer c =
    let e = turn_is c.args.self.now (option_copied c.innermost.result) (option_copied c.given.result) c.args.line.now (Some c.in_ok-turn.turn) c.innermost.ensures c.given.ensures c.in_ok-turn.ensures in
    too_deep c.args.limit c.args.self.now c.args.line.now c.in_ok-turn.turn e
    (ap (λ n. fits c.args.limit n c.in_ok-turn.turn) (sym c.len.ensures) ∙ sym c.fits.ensures ∙ c.if-not-fits.true) c.requires

pub apply-requires : goal.apply-requires
apply-requires c =
    erases c.args.self.now c.args.line.now c.in_ok-turn.turn
    (turn_is c.args.self.now (option_copied c.innermost.result) (option_copied c.given.result) c.args.line.now (Some c.in_ok-turn.turn) c.innermost.ensures c.given.ensures c.in_ok-turn.ensures)

pub returns-clause-depth : goal.returns-clause-depth
returns-clause-depth c =
    takes_depth c.args.limit c.args.self.now c.apply.new.self c.in_ok-turn.turn
    (ap (λ n. fits c.args.limit n c.in_ok-turn.turn) (sym c.len.ensures) ∙ sym c.fits.ensures ∙ c.if-not-fits.false) c.requires c.in_ok-apply.ensures

pub returns-clause-answer : goal.returns-clause-answer
returns-clause-answer c =
    let e = turn_is c.args.self.now (option_copied c.innermost.result) (option_copied c.given.result) c.args.line.now (Some c.in_ok-turn.turn) c.innermost.ensures c.given.ensures c.in_ok-turn.ensures in
    takes_line c.args.limit c.args.self.now c.apply.new.self c.args.line.now c.in_ok-turn.turn e
    (ap (λ n. fits c.args.limit n c.in_ok-turn.turn) (sym c.len.ensures) ∙ sym c.fits.ensures ∙ c.if-not-fits.false) c.in_ok-apply.ensures
