use Rattle.std.proofs.Common.{◌≡◌, ℕ, List, [], IfOk, ap, subst, ◌∙◌}
use Rattle.ncq_flat.specs.Said.{string_value_in}
use Rattle.ncq_flat.proofs.SaidLaws.{inside_value}
use Rattle.ncq_flat.proofs.written.Written.string_value.Goals as goal

pub returns : goal.returns
returns c =
    subst (λ (v : List ℕ). IfOk c.string_value.result (λ b. b ≡ v))
    (ap string_value_in c.inside.ensures ∙ inside_value c.args.self.now []) c.string_value.ensures
