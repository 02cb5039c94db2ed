use Rattle.std.proofs.Common.{◌∙◌, ap, subst}
use Rattle.ncq_midfile.specs.Content.{signed_at}
use Rattle.ncq_midfile.specs.Shown.{rows_below}
use Rattle.ncq_shelf.specs.Keyed.{AreHeld}
use Rattle.ncq_shelf.proofs.Turns.{ok_more}
use Rattle.ncq_shelf.proofs.keys.note_content.Goals as goal

pub returns-clause-ok : goal.returns-clause-ok
returns-clause-ok c =
    let all = ap (λ ps. signed_at ps (rows_below c.args.content.now)) c.as_slice.ensures ∙ c.in_ok-places.ensures.rows in
    ok_more c.note_places.result (subst (AreHeld c.note_places.new.holders c.args.number c.args.slot) all) c.note_places.ensures.ok
