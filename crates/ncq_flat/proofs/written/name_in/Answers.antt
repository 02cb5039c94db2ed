use Rattle.std.proofs.Common.{◌∷◌, ◌-◌, List, ℕ, length, take, drop, ap, ◌∙◌}
use Rattle.ncq_flat.proofs.FlatLaws.{one_line, not_clean, behind_first}
use Rattle.ncq_flat.proofs.written.name_in.Goals as goal

pub returns-in_default : goal.returns-in_default
returns-in_default c = λ mark name rest clean is. absurd (not_clean c.args.text.now (mark ∷ name) rest c.in_default.ensures clean is)

pub returns-in-len1-up : goal.returns-in-len1-up
returns-in-len1-up c = λ mark name rest clean is.
    let e = one_line c.args.text.now c.in-Some.line.now (mark ∷ name) c.in-Some.field-0-1.now rest c.in-Some.ensures.0 clean c.in-Some.ensures.1 is in
    ap (λ (l : List ℕ). take (length l - 1) (drop 1 l)) e ∙ behind_first mark name
