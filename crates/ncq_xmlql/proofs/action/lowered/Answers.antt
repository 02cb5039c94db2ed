use Rattle.std.proofs.Common.{◌++◌, ◌∷◌, [], ◌∙◌, sym}
use Rattle.std.specs.Char.{to_ascii_lowercase}
use Rattle.std.proofs.lemmas.List.{map_more}
use Rattle.ncq_xmlql.proofs.action.lowered.Goals as goal

pub loop-byte-preserved : goal.loop-byte-preserved
loop-byte-preserved c =
    c.in_ok-push.ensures.items
    ∙ (λ i. c.loop-byte.invariant i ++ c.to_ascii_lowercase.ensures.value i ∷ [])
    ∙ sym (map_more to_ascii_lowercase c.args.word.now c.loop-byte.byte-index 0 c.loop-byte-test.true)
