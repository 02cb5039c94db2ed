use Rattle.std.proofs.Common.{◌≡◌, ◌∙◌, ap}
use Rattle.std.specs.Prelude.{false}
use Rattle.std.proofs.lemmas.Result.{on_ok_weaker}
use Rattle.ncq_script.specs.ScriptReading.{is_finished}
use Rattle.ncq_script.proofs.ScriptLaws.{pushed_script}
use Rattle.ncq_script.proofs.script_reader.ScriptReader.push.Goals as goal

pub returns-clause-ok : goal.returns-clause-ok
returns-clause-ok c =
    let is_open : c.self.inside.reader.lines.finished ≡ false = ap is_finished c.self.view_is ∙ c.requires in
    on_ok_weaker c.push.result (λ h. rw (← c.self.view_is) (pushed_script _ _ _ _ h c.push.ensures.limit is_open c.push.ensures.open)) c.push.ensures.ok
