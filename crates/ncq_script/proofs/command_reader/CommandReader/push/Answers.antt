use Rattle.std.proofs.Common.{◌≡◌, ◌∙◌, ap}
use Rattle.std.specs.Prelude.{false}
use Rattle.std.proofs.lemmas.Result.{on_ok_weaker}
use Rattle.ncq_script.specs.Reading.{CommandState}
use Rattle.ncq_script.proofs.Following.{pushed_piece}
use Rattle.ncq_script.proofs.command_reader.CommandReader.push.Goals as goal

pub returns-clause-ok : goal.returns-clause-ok
returns-clause-ok c =
    let is_open : c.self.inside.lines.finished ≡ false = ap (λ (r : CommandState). r.lines.finished) c.self.view_is ∙ c.requires in
    on_ok_weaker c.push.result (λ h. rw (← c.self.view_is) (pushed_piece _ _ _ _ h c.push.ensures.limit is_open c.push.ensures.open)) c.push.ensures.ok
