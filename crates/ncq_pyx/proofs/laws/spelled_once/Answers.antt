use Rattle.std.proofs.Common.{◌≡◌, Some, sym, ◌∙◌}
use Rattle.ncq_pyx.proofs.laws.spelled_once.Goals as goal

pub returns : goal.returns
returns c = λ limit lines a b x y. let e : Some a ≡ Some b = sym x ∙ y in cc
