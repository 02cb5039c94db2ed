use Rattle.std.proofs.Common.{◌∙◌, sym, ap, List, ℕ}
use Rattle.std.specs.FinMap.{get}
use Rattle.ncq_base.specs.Keys.{map_of}
use Rattle.ncq_base.proofs.Keyed.{get_map_of}
use Rattle.ncq_bag.proofs.counts.Counts.reserve.Goals as goal

pub returns-clause-positive : goal.returns-clause-positive
returns-clause-positive c key is =
    let same =
    ap (λ (es : List (List ℕ × ℕ)). get (map_of es) key) (sym c.reserve.ensures.entries) in
    c.self.invariant key (sym (get_map_of c.self.inside.counts.entries key) ∙ same ∙ is)
