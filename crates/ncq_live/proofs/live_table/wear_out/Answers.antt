use Rattle.std.proofs.Common.{◌∙◌, arith, subst, sym}
use Rattle.std.proofs.lemmas.List.{take_all}
use Rattle.ncq_live.specs.Wears.{Bounds}
use Rattle.ncq_live.proofs.WearLaws.{AreNoted, noted_more, on_ok}
use Rattle.ncq_live.proofs.live_table.wear_out.Goals as goal

pub loop-file-preserved : goal.loop-file-preserved
loop-file-preserved c = record {
  more = λ number. let first = c.loop-file.invariant.more number in let then = c.in_ok-is_spent.ensures.more number in omega arith;
  noted =
      noted_more c.args.groups.now.files c.args.number c.args.wear.now.bounds c.loop-file.wear.bounds c.wear_one.new.wear.bounds c.args.fed.now c.loop-file.file-index c.loop-file-test.true
      c.loop-file.invariant.more c.in_ok-is_spent.ensures.more c.in_ok-is_spent.ensures.here c.loop-file.invariant.noted;
  pinned = c.in_ok-is_spent.ensures.pinned ∙ c.loop-file.invariant.pinned;
}

pub returns-clause-fed : goal.returns-clause-fed
returns-clause-fed c =
    let end = c.loop-file-test.false in
    on_ok c.list_waiting.result
    (subst (λ (b : Bounds). AreNoted c.args.groups.now.files c.args.number c.args.wear.now.bounds b c.args.fed.now) (sym (c.list_waiting.ensures.bounds ∙ c.list_spent.ensures.bounds))
    (subst (AreNoted c.args.groups.now.files c.args.number c.args.wear.now.bounds c.loop-file.wear.bounds) (take_all c.loop-file.file-index c.args.fed.now (omega arith)) c.loop-file.invariant.noted))
