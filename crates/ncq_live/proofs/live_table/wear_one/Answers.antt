use Rattle.std.proofs.Common.{◌∙◌, sym, true≢false}
use Rattle.ncq_live.proofs.live_table.wear_one.Goals as goal

pub returns-then-not-has-clause-here : goal.returns-then-not-has-clause-here
returns-then-not-has-clause-here c = λ file at. absurd (true≢false (sym (c.has.ensures.1 (record { file = file; at = at })) ∙ c.if-not-has.true))

pub file-view-requires : goal.file-view-requires
file-view-requires c = c.has.ensures.0 c.if-not-has.false
