use Rattle.std.proofs.Common.{◌++◌, ◌∷◌, [], ◌∙◌, sym}
use Rattle.std.proofs.lemmas.List.{map_push}
use Rattle.ncq_bind.specs.NormalArms.{normal_arm}
use Rattle.ncq_bind.proofs.arm.normal_arms.Goals as goal

pub loop-arm-preserved : goal.loop-arm-preserved
loop-arm-preserved c =
    c.in_ok-push.ensures.ok
    ∙ (λ i. c.loop-arm.invariant i ++ c.in_ok-normal_arm.ensures i ∷ [])
    ∙ sym (map_push (normal_arm c.args.constraints.now) c.loop-arm.yielded c.in-Some.arm)
